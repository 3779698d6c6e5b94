-- Words that keep the rule show one legal log: first each ticket that was handed out is offered and handed out at once,
-- then those that wait are offered, then comes the close.
use Rattle.mothra_exchange.proofs.Common.{◌≡◌, ◌<◌, ℕ, ◌∙◌, sym, ap, arith, subst, refl, ◌+◌, List, [], ◌≤◌, false, slice_index, ◌≢◌, ◌∷◌, Bool, suc, true}
use Rattle.mothra_exchange.proofs.Common.{zero, ◌++◌, ◌-◌, index_below, same_op, index-op_at, index, ticket, op_at, Op, opening_word, InBounds, IsLegalLog}
use Rattle.mothra_exchange.proofs.Common.{IsSoundExchange, hands, word_after_offer, word_after_take, closes, offers, word_after_close, word_of, Loads}
use Rattle.mothra_exchange.proofs.Common.{ShowOneLog, ShowsLog, Event, Closed, Handed, Offered, View, Word, dite, ℕ_discrete}
use Rattle.mothra_exchange.proofs.Logs.{legal_more, stands, word-offered, word-handed, word-closed, word-other}
use Rattle.mothra_exchange.proofs.Exchanges.{fits, pack-injective}

abbrev numbers : ℕ → ℕ → ℕ → Bool → Word
numbers n o h c = record { count = n; offered = o; handed = h; closed = c }

-- in some legal log op has the numbers w, and every other operator has those that it has in `log`
record Reaches (C : ℕ) (counts : List ℕ) (log : List Event) (op : Op) (w : Word) : Type 0 where
  more : List Event
  legal : IsLegalLog C counts more
  shows : word_of counts more (index op) ≡ w
  others : (o : Op) → o ≢ op → word_of counts more (index o) ≡ word_of counts log (index o)

next_offer : (C : ℕ) (counts : List ℕ) (log : List Event) (op : Op) (n o h : ℕ) → n ≡ slice_index counts (index op) → o < n → o < h + C
    → Reaches C counts log op (numbers n o h false) → Reaches C counts log op (numbers n (o + 1) h false)
next_offer C counts log op n o h count room few r =
    let t = ticket op (o + 1) in
    let so : offers (index op) r.more ≡ o = ap (λ (w : Word). w.offered) r.shows in
    let sh : hands (index op) r.more ≡ h = ap (λ (w : Word). w.handed) r.shows in
    let sc : closes (index op) r.more ≡ false = ap (λ (w : Word). w.closed) r.shows in record {
      more = r.more ++ Offered t ∷ [];
      legal = legal_more C counts [] r.more (Offered t) r.legal (omega arith, omega arith, sc, omega arith);
      shows = word-offered counts r.more t ∙ ap word_after_offer r.shows;
      others = λ o ne. word-other counts r.more (Offered t) (index o) (λ e. ne (same_op o op e)) ∙ r.others o ne;
    }

next_hand : (C : ℕ) (counts : List ℕ) (log : List Event) (op : Op) (n o h : ℕ) → h < o
    → Reaches C counts log op (numbers n o h false) → Reaches C counts log op (numbers n o (h + 1) false)
next_hand C counts log op n o h waits r =
    let t = ticket op (h + 1) in
    let so : offers (index op) r.more ≡ o = ap (λ (w : Word). w.offered) r.shows in
    let sh : hands (index op) r.more ≡ h = ap (λ (w : Word). w.handed) r.shows in record {
      more = r.more ++ Handed t ∷ [];
      legal = legal_more C counts [] r.more (Handed t) r.legal (omega arith, stands C counts op r.more (h + 1) r.legal (omega arith) (omega arith));
      shows = word-handed counts r.more t ∙ ap word_after_take r.shows;
      others = λ o ne. word-other counts r.more (Handed t) (index o) (λ e. ne (same_op o op e)) ∙ r.others o ne;
    }

-- the close, where the operator is closed
then_closed : (C : ℕ) (counts : List ℕ) (log : List Event) (op : Op) (n o h : ℕ) (c : Bool)
    → Reaches C counts log op (numbers n o h false) → Reaches C counts log op (numbers n o h c)
then_closed C counts log op n o h false r = r
then_closed C counts log op n o h true r =
    let sc : closes (index op) r.more ≡ false = ap (λ (w : Word). w.closed) r.shows in record {
      more = r.more ++ Closed op ∷ [];
      legal = legal_more C counts [] r.more (Closed op) r.legal sc;
      shows = word-closed counts r.more op ∙ ap word_after_close r.shows;
      others = λ o ne. word-other counts r.more (Closed op) (index o) (λ e. ne (same_op o op e)) ∙ r.others o ne;
    }

-- h tickets, each offered and handed out at once
all_handed : (C : ℕ) (counts : List ℕ) (log : List Event) (op : Op) (n h : ℕ) → n ≡ slice_index counts (index op) → 0 < C → h ≤ n
    → Reaches C counts log op (numbers n 0 0 false) → Reaches C counts log op (numbers n h h false)
all_handed C counts log op n zero count pos le r = r
all_handed C counts log op n (suc h) count pos le r =
    let e : h + 1 ≡ suc h = omega arith in
    let was = all_handed C counts log op n h count pos (omega arith) r in
    let one = next_offer C counts log op n h h count (omega arith) (omega arith) was in
    subst (λ (k : ℕ). Reaches C counts log op (numbers n k k false)) e (next_hand C counts log op n (h + 1) h (omega arith) one)

-- k more tickets, which are offered and wait
all_waiting : (C : ℕ) (counts : List ℕ) (log : List Event) (op : Op) (n h k : ℕ) → n ≡ slice_index counts (index op) → h + k ≤ n → k ≤ C
    → Reaches C counts log op (numbers n h h false) → Reaches C counts log op (numbers n (h + k) h false)
all_waiting C counts log op n h zero count le few r = let e : h ≡ h + 0 = omega arith in subst (λ (o : ℕ). Reaches C counts log op (numbers n o h false)) e r
all_waiting C counts log op n h (suc k) count le few r =
    let e : h + k + 1 ≡ h + suc k = omega arith in
    let was = all_waiting C counts log op n h k count (omega arith) (omega arith) r in
    subst (λ (o : ℕ). Reaches C counts log op (numbers n o h false)) e (next_offer C counts log op n (h + k) h count (omega arith) (omega arith) was)

reaches : (C : ℕ) (counts : List ℕ) (log : List Event) (op : Op) (w : Word) → w.count ≡ slice_index counts (index op) → InBounds C w → 0 < C
    → IsLegalLog C counts log → word_of counts log (index op) ≡ opening_word (slice_index counts (index op)) → Reaches C counts log op w
reaches C counts log op w count b pos legal is_new =
    let start : Reaches C counts log op (numbers w.count 0 0 false) = record {
      more = log;
      legal = legal;
      shows = is_new ∙ ap opening_word (sym count);
      others = λ o ne. refl;
    } in
    let le : w.handed ≤ w.count = let x = b.handed in let y = b.offered in omega arith in
    let few : w.offered - w.handed ≤ C = let x = b.handed in let y = b.waiting in omega arith in
    let sum : w.handed + (w.offered - w.handed) ≡ w.offered = let x = b.handed in omega arith in
    let room : w.handed + (w.offered - w.handed) ≤ w.count = let y = b.offered in omega arith in
    let handed = all_handed C counts log op w.count w.handed count pos le start in
    let waiting = all_waiting C counts log op w.count w.handed (w.offered - w.handed) count room few handed in
    then_closed C counts log op w.count w.offered w.handed w.closed
    (subst (λ (o : ℕ). Reaches C counts log op (numbers w.count o w.handed false)) sum waiting)

-- the first m operators have their words in the log, and the others nothing
record ShowsFirst (C : ℕ) (counts : List ℕ) (word : Op → Word) (m : ℕ) : Type 0 where
  log : List Event
  legal : IsLegalLog C counts log
  shows : (op : Op) → index op < m → word_of counts log (index op) ≡ word op
  opens : (op : Op) → m ≤ index op → word_of counts log (index op) ≡ opening_word (slice_index counts (index op))

shows_first : (C : ℕ) (counts : List ℕ) (word : Op → Word) → ((op : Op) → (word op).count ≡ slice_index counts (index op)) → ((op : Op) → InBounds C (word op)) → 0 < C
    → (m : ℕ) → m ≤ 22 → ShowsFirst C counts word m
shows_first C counts word count bounds pos zero le = record { log = []; legal = tt; shows = λ op lt. absurd (omega arith); opens = λ op le. refl }
shows_first C counts word count bounds pos (suc m) le =
    let was = shows_first C counts word count bounds pos m (omega arith) in
    let op = op_at m in
    let at : index op ≡ m = index-op_at m (omega arith) in
    let r = reaches C counts was.log op (word op) (count op) (bounds op) pos was.legal (was.opens op (omega arith)) in record {
      log = r.more;
      legal = r.legal;
      shows = λ o lt. dite (ℕ_discrete (index o) m)
          (λ e. subst (λ (x : Op). word_of counts r.more (index x) ≡ word x) (sym (same_op o op (e ∙ sym at))) r.shows)
          (λ ne. r.others o (λ same. ne (ap index same ∙ at)) ∙ was.shows o (omega arith));
      opens = λ o more. r.others o (λ same. let e : index o ≡ m = ap index same ∙ at in absurd (omega arith)) ∙ was.opens o (omega arith);
    }

pub shows_one_log : (C : ℕ) (counts words : List ℕ) (views : List View) → IsSoundExchange C counts words views → 0 < C → ShowOneLog C counts words views
shows_one_log C counts words views h pos =
    let s = shows_first C counts (λ op. (h.ops op).0) (λ op. (h.ops op).2.count) (λ op. (h.ops op).2.bounds) pos 22 (omega arith) in (
      s.log,
      s.legal,
      λ op w is.
          let was = h.ops op in
          sym (pack-injective was.0 w (fits C was.0 was.2.bounds) is.0 (sym was.1 ∙ is.1)) ∙ sym (s.shows op (index_below op)),
    )

pub loaded_shows : (C : ℕ) (v : View) (op : Op) (w : Word) → Loads C v (index op) w → 0 < C → ShowsLog C v.counts op w
loaded_shows C v op w l pos = let r = reaches C v.counts [] op w l.count l.bounds pos tt refl in (r.more, r.legal, sym r.shows)
