-- How an exchange begins and ends.
use Rattle.mothra_exchange.proofs.Common.{◌≡◌, ◌<◌, ℕ, ◌∙◌, sym, length, ap, arith, subst, refl, List, [], ◌≤◌, get_or, slice_index, ⊎_elim, ◌∷◌, suc, zero}
use Rattle.mothra_exchange.proofs.Common.{◌⊎◌, inl, map, nat_tests, Final, Seen, index_below, index, ticket_times, once_up_to, AtMost, opening_word}
use Rattle.mothra_exchange.proofs.Common.{times_closed, IsLive, IsSoundExchange, Knows, first_look, largest_count, pack, spent_view, total, AllCountsFit}
use Rattle.mothra_exchange.proofs.Common.{FitsWord, EndsAsViews, EndsAt, operator_word, whole_view, HoldsRule, Look, View, Word, get_elem?, some}
use Rattle.mothra_exchange.proofs.Common.{some-injective, some-ne-none}
use Rattle.mothra_exchange.proofs.Counting.{AtMost-refl, total_has}
use Rattle.mothra_exchange.proofs.Steps.{lives}
use Rattle.mothra_exchange.proofs.Halves.{blank}
use Rattle.mothra_exchange.proofs.Exchanges.{fits}

first_looks : (counts : List ℕ) (i : ℕ) → get_or (map first_look counts) i (first_look 0) ≡ first_look (get_or counts i 0)
first_looks [] i = refl
first_looks (n ∷ ns) zero = refl
first_looks (n ∷ ns) (suc i) = first_looks ns i

length_looks : (counts : List ℕ) → length (map first_look counts) ≡ length counts
length_looks [] = refl
length_looks (n ∷ ns) = ap suc (length_looks ns)

one_view : (v u : View) (by : ℕ) → get_elem? (v ∷ []) by ≡ some u → v ≡ u
one_view v u zero e = some-injective _ _ e
one_view v u (suc by) e = absurd (some-ne-none u (sym e))

once_up_to-none : (k : ℕ) → once_up_to 0 k ≡ 0
once_up_to-none k = grind (arith, nat_tests)

pub begins : (C : ℕ) (counts : List ℕ) (words : List ℕ) → words ≡ counts → length counts ≡ 22 → AllCountsFit counts → IsSoundExchange C counts words (whole_view counts ∷ [])
begins C counts words e is small = record {
  length_is = ap (λ (l : List ℕ). length l) e ∙ is;
  ops = λ o.
      let n = slice_index counts (index o) in
      let few : n ≤ largest_count = small (index o) (index_below o) in
      let w = opening_word n in (
        w,
        (ap (λ (l : List ℕ). slice_index l (index o)) e ∙ omega arith),
        record {
          count = refl;
          bounds = record { handed = omega arith; offered = omega arith; waiting = omega arith; count = few };
          taken = λ k. let z = once_up_to-none k in omega arith;
          offered = λ k. let z = once_up_to-none k in omega arith;
          closings = λ k. refl;
          seen = λ by v f. subst (λ (u : View). Knows (index o) u w) (one_view (whole_view counts) v by f)
              (subst (λ (l : Look). AtMost l.seen w) (sym (first_looks counts (index o))) (AtMost-refl w), blank 0 w refl, blank 0 w refl);
        },
      );
  parts = refl;
  lives = λ by v f. inl (subst (IsLive counts) (one_view (whole_view counts) v by f) (refl, omega arith, length_looks counts ∙ is));
}

-- where one view has all shares, the other views add nothing to a total
none_left : (f : View → ℕ) (views : List View) → total (λ u. u.part) views ≡ 0 → ((by : ℕ) (u : View) → get_elem? views by ≡ some u → u.part ≡ 0 → f u ≡ 0) → total f views ≡ 0
none_left f [] e h = refl
none_left f (x ∷ xs) e h = let a = h zero x refl (omega arith) in let b = none_left f xs (omega arith) (λ by u g p. h (suc by) u g p) in omega arith

pub alone : (f : View → ℕ) (views : List View) (id : ℕ) (v : View) → get_elem? views id ≡ some v → total (λ u. u.part) views ≡ v.part
    → ((by : ℕ) (u : View) → get_elem? views by ≡ some u → u.part ≡ 0 → f u ≡ 0) → total f views ≡ f v
alone f [] id v at e h = absurd (some-ne-none v (sym at))
alone f (x ∷ xs) zero v at e h =
    let same : x ≡ v = some-injective _ _ at in
    let p : x.part ≡ v.part = ap (λ (u : View). u.part) same in
    let q : f x ≡ f v = ap f same in
    let b = none_left f xs (omega arith) (λ by u g z. h (suc by) u g z) in omega arith
alone f (x ∷ xs) (suc id) v at e h =
    let m = total_has (λ u. u.part) xs id v at in
    let a = h zero x refl (omega arith) in
    let b = alone f xs id v at (omega arith) (λ by u g z. h (suc by) u g z) in omega arith

spent_if : (counts : List ℕ) (u : View) → u.part ≡ 0 → IsLive counts u ⊎ (u ≡ spent_view) → u ≡ spent_view
spent_if counts u z known = ⊎_elim (λ (l : IsLive counts u). absurd (omega arith)) (λ (e : u ≡ spent_view). e) known

at_word : (l : List ℕ) (i a : ℕ) → i < length l → slice_index l i ≡ a → get_elem? l i ≡ some a
at_word [] i a h e = absurd (omega arith)
at_word (x ∷ xs) zero a h e = ap some e
at_word (x ∷ xs) (suc i) a h e = at_word xs i a (omega arith) e

-- the first n words are those that the bits pack
abbrev pub IsUnpacked : ℕ → List ℕ → List Word → Type 0
IsUnpacked n bits words = (k : ℕ) (w : Word) → k < n → FitsWord w → get_elem? bits k ≡ some (pack w) → get_or words k (opening_word 0) ≡ w

pub ends : {S : Type 0} (C : ℕ) (counts : List ℕ) (id : ℕ) (v : View) (bits : List ℕ) (slots : List S) (words : List Word) → 0 < v.part
    → Final (Seen (HoldsRule {S = S} C counts) id v) bits slots → IsUnpacked 22 bits words → EndsAsViews C v words
ends {S} C counts id v bits slots words part fin reads op =
    let s = fin.0 in
    let h = fin.1.0 in
    let at = fin.1.1 in
    let i = index op in
    let was = h.ops op in
    let w = was.0 in
    let r = was.2 in
    let l = lives counts v part (h.lives id v at) in
    let small : i < length s.words = subst (λ (n : ℕ). i < n) (sym h.length_is) (index_below op) in
    let there : get_elem? bits i ≡ some (pack w) = subst (λ (b : List ℕ). get_elem? b i ≡ some (pack w)) fin.2 (at_word s.words i (pack w) small was.1) in
    let same : operator_word words op ≡ w = reads i w (index_below op) (fits C w r.bounds) there in
    subst (EndsAt C i v) (sym same) (record {
      bounds = r.bounds;
      count = r.count ∙ ap (λ (c : List ℕ). slice_index c i) (sym l.0);
      seen = (r.seen id v at).0;
      taken = λ k. let m = total_has (λ u. ticket_times i k u.taken) s.views id v at in let t = r.taken k in omega arith;
      offered = λ k. let m = total_has (λ u. ticket_times i k u.offered) s.views id v at in let t = r.offered k in omega arith;
      closings = λ k. let m = total_has (λ u. times_closed i k u.closings) s.views id v at in let t = r.closings k in omega arith;
      whole = λ all.
          let sole : total (λ u. u.part) s.views ≡ v.part = h.parts ∙ sym all in
          let gone : (by : ℕ) (u : View) → get_elem? s.views by ≡ some u → u.part ≡ 0 → u ≡ spent_view = λ by u g z. spent_if counts u z (h.lives by u g) in record {
            taken = λ k. sym (alone (λ u. ticket_times i k u.taken) s.views id v at sole (λ by u g z. ap (λ (x : View). ticket_times i k x.taken) (gone by u g z))) ∙ r.taken k;
            offered = λ k. sym (alone (λ u. ticket_times i k u.offered) s.views id v at sole (λ by u g z. ap (λ (x : View). ticket_times i k x.offered) (gone by u g z))) ∙ r.offered k;
            closings = λ k. sym (alone (λ u. times_closed i k u.closings) s.views id v at sole (λ by u g z. ap (λ (x : View). times_closed i k x.closings) (gone by u g z))) ∙ r.closings k;
          };
    })
