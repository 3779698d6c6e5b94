-- What the begin of a DO answers: its parameters are evaluated one after another, and the first fault ends the run.
use Rattle.f77_code.proofs.Common.{◌≡◌, ◌∙◌, ℕ, List, ℤ, pos, Result, Err, ◌<ℤ◌, ◌≤ℤ◌, Encodes, Fault, Failed, point, Point, ended_point, begun_in_code}
use Rattle.f77_code.proofs.Common.{used_in_code, Turn}
use Rattle.f77_code.proofs.Points.{fails, goes}

module _ (variable counter body next : ℕ) (registers : List ℤ) (turns : List Turn) (first last step : Result ℤ Fault) where
  -- behind the evaluation of both other parameters, and behind that of the first
  abbrev on_last : ℤ → ℤ → Point
  on_last a b = used_in_code step registers turns (λ c. begun_in_code variable counter body next a b c registers turns)

  abbrev on_first : ℤ → Point
  on_first a = used_in_code last registers turns (on_last a)

  pub first_fails : (p : ℕ) (a : ℤ) → pos 1099511627776 ≤ℤ a → ((f : Fault) → Encodes a (Err f) → p ≡ ended_point (Failed f)) → Encodes a first
      → point p registers turns ≡ used_in_code first registers turns on_first
  first_fails p a h e encodes = fails p registers turns a h e on_first first encodes

  module _ (a : ℤ) (small : a <ℤ pos 1099511627776) (encodes : Encodes a first) where
    pub last_fails : (p : ℕ) (b : ℤ) → pos 1099511627776 ≤ℤ b → ((f : Fault) → Encodes b (Err f) → p ≡ ended_point (Failed f)) → Encodes b last
        → point p registers turns ≡ used_in_code first registers turns on_first
    last_fails p b h e t = fails p registers turns b h e (on_last a) last t ∙ goes registers turns a small on_first first encodes

    module _ (b : ℤ) (low : b <ℤ pos 1099511627776) (is : Encodes b last) where
      pub step_fails : (p : ℕ) (c : ℤ) → pos 1099511627776 ≤ℤ c → ((f : Fault) → Encodes c (Err f) → p ≡ ended_point (Failed f)) → Encodes c step
          → point p registers turns ≡ used_in_code first registers turns on_first
      step_fails p c h e t =
          fails p registers turns c h e (λ c. begun_in_code variable counter body next a b c registers turns) step t
          ∙ goes registers turns b low (on_last a) last is
          ∙ goes registers turns a small on_first first encodes

      -- all three have values
      pub all_go : (q : Point) (c : ℤ) → c <ℤ pos 1099511627776 → Encodes c step → q ≡ begun_in_code variable counter body next a b c registers turns
          → q ≡ used_in_code first registers turns on_first
      all_go q c h t did =
          did
          ∙ goes registers turns c h (λ c. begun_in_code variable counter body next a b c registers turns) step t
          ∙ goes registers turns b low (on_last a) last is
          ∙ goes registers turns a small on_first first encodes
