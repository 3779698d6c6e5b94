-- How a log begins.
use Rattle.mothra_exchange.proofs.Common.{◌≡◌, ◌<◌, ℕ, ◌∙◌, sym, length, ap, arith, subst, refl, ◌+◌, List, [], ◌≤◌, get_or, slice_index, ◌∷◌, suc, zero, map}
use Rattle.mothra_exchange.proofs.Common.{◌*◌, take, index_below, index, opening_word, InBounds, counts_of, room, AllCountsFit, KeepsLog, words_used, Event}
use Rattle.mothra_exchange.proofs.Common.{Word}

pub same_list : {A : Type 0} (d : A) (xs ys : List A) → length xs ≡ length ys → ((k : ℕ) → k < length xs → get_or xs k d ≡ get_or ys k d) → xs ≡ ys
same_list d [] [] e h = refl
same_list d [] (y ∷ ys) e h = absurd (omega arith)
same_list d (x ∷ xs) [] e h = absurd (omega arith)
same_list d (x ∷ xs) (y ∷ ys) e h = let p = h zero (omega arith) in let q = same_list d xs ys (omega arith) (λ k l. h (suc k) (omega arith)) in λ i. p i ∷ q i

pub opening_at : (counts : List ℕ) (k : ℕ) → get_or (map opening_word counts) k (opening_word 0) ≡ opening_word (get_or counts k 0)
opening_at [] k = refl
opening_at (n ∷ ns) zero = refl
opening_at (n ∷ ns) (suc k) = opening_at ns k

pub length-opening : (counts : List ℕ) → length (map opening_word counts) ≡ length counts
length-opening [] = refl
length-opening (n ∷ ns) = ap suc (length-opening ns)

pub counts_of-opening : (counts : List ℕ) → counts_of (map opening_word counts) ≡ counts
counts_of-opening [] = refl
counts_of-opening (n ∷ ns) = ap (λ (l : List ℕ). n ∷ l) (counts_of-opening ns)

used-opening : (counts : List ℕ) → words_used (map opening_word counts) ≡ 0
used-opening [] = refl
used-opening (n ∷ ns) = let h = used-opening ns in omega arith

room-take-suc : (counts : List ℕ) (i : ℕ) → i < length counts → room (map opening_word (take (suc i) counts)) ≡ room (map opening_word (take i counts)) + (2 * get_or counts i 0 + 1)
room-take-suc [] i h = absurd (omega arith)
room-take-suc (n ∷ ns) zero h = omega arith
room-take-suc (n ∷ ns) (suc i) h = let r = room-take-suc ns i (omega arith) in omega arith

pub room-take : (counts : List ℕ) (i : ℕ) → i < length counts → room (map opening_word (take (i + 1) counts)) ≡ room (map opening_word (take i counts)) + (2 * get_or counts i 0 + 1)
room-take counts i h = let e : i + 1 ≡ suc i = omega arith in ap (λ (n : ℕ). room (map opening_word (take n counts))) e ∙ room-take-suc counts i h

pub opened : (words : List Word) (counts : List ℕ) → length words ≡ 22 → length counts ≡ 22
    → ((k : ℕ) → k < 22 → get_or words k (opening_word 0) ≡ opening_word (get_or counts k 0)) → words ≡ map opening_word counts
opened words counts l m h = same_list (opening_word 0) words (map opening_word counts) (let e = length-opening counts in omega arith) (λ k lt. h k (omega arith) ∙ sym (opening_at counts k))

pub starts : (C : ℕ) (counts : List ℕ) (words : List Word) (log : List Event) (capacity : ℕ) → length counts ≡ 22 → AllCountsFit counts → words ≡ map opening_word counts
    → log ≡ [] → room (map opening_word counts) ≤ capacity → KeepsLog C words log capacity
starts C counts words log capacity l small e f r = subst (λ (y : List Word × List Event). KeepsLog C y.0 y.1 capacity) (λ i. (sym e i, sym f i)) (record {
  legal = tt;
  shows = λ op. opening_at counts (index op) ∙ ap (λ (c : List ℕ). opening_word (slice_index c (index op))) (sym (counts_of-opening counts));
  bounds = λ op. subst (InBounds C) (sym (opening_at counts (index op))) (record { handed = omega arith; offered = omega arith; waiting = omega arith; count = small (index op) (index_below op) });
  length_is = length-opening counts ∙ l;
  many = sym (used-opening counts);
  fit = r;
})
