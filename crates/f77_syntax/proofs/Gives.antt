-- What the parser's functions give, from what they call.
use Rattle.f77_syntax.proofs.Common.{refl, ◌∙◌, sym, ap, ◌≡◌, List, ℕ, true, [], ◌∷◌, Some, None, false, length, arith, subst, Option, ◌++◌, Bool, ◌==◌, map}
use Rattle.f77_syntax.proofs.Common.{codes, ◌<◌, cond, ◌&&◌, nat_le, length-append, Err, Ok, IfOk, MatchResult, Result, Box, map-append, none-some, Bor}
use Rattle.f77_syntax.proofs.Common.{digits_value, ◌>>=◌, strip, tree_after, clipped, reading, value_ended, operator_at, clip, close_at, start_at, Fails}
use Rattle.f77_syntax.proofs.Common.{expr_at, Gives, climb_at, climb_on, clip_all, listed_by, named_at, reference_at, trees_at, word_tree_at, dotted_at}
use Rattle.f77_syntax.proofs.Common.{function_listed, more_at, closed, enclosed_at, negated_at, signed_tree_at, IsTreeStart, ReadError, Unknown, reference_view}
use Rattle.f77_syntax.proofs.Common.{binary_view, not_view, number_view, ref_view, signed_view, truth_view, is_name, is_number, past_word, word, function_named}
use Rattle.f77_syntax.proofs.Common.{cut, left_level, level, right_level, Tree, Trees, tree_of, trees, reference_fields, Intrinsic, Operator, Sign, Minus, Plus}
use Rattle.f77_syntax.proofs.Common.{Expr}
use Rattle.std.specs.declared.alloc.Global.{Global}
use Rattle.f77_tree.specs.declared.tree.Ref.{Ref}
use Rattle.f77_tree.specs.declared.tree.Expr.TheVariants.{Number, Truth}
use Rattle.f77_tree.specs.declared.tree.Expr.TheViews as views
use Rattle.f77_syntax.specs.declared.fault.ReadError.TheVariants.{Memory}
use Rattle.f77_syntax.proofs.Sound.{sound_reading}
use Rattle.f77_syntax.proofs.Shorter.{spelled_long}
use Rattle.f77_syntax.proofs.Agree.{reading_expr, reading_climb, reading_items}
use Rattle.f77_syntax.proofs.Loops.{Climbing, Listing, before}
use Rattle.f77_syntax.proofs.Sound as sound

-- a fault of the first step is that of the whole
pub fails_bind : {A B : Type 0} (e : ReadError) (o : Option A) (f : A → Option B) → Fails e o → Fails e (o >>= f)
fails_bind Memory o f h = tt
fails_bind Unknown o f h = rw h refl

pub gives_ended : {X A : Type 0} (Is : X → A → Type 0) (value : X) (end : List ℕ) (a : A) (rest : List ℕ) (r : Result X ReadError)
    → MatchResult r (λ x. (x ≡ value) × ((length end == 0) ≡ true)) (λ e. (e ≡ Unknown) × ((length end == 0) ≡ false)) → Is value a → end ≡ rest → Gives Is r (value_ended a rest)
gives_ended Is value end a rest (Ok x) h is at = (a, rw (← at, h.1) refl, subst (λ z. Is z a) (sym h.0) is)
gives_ended Is value end a rest (Err e) h is at = subst (λ z. Fails z (value_ended a rest)) (sym h.0) (rw (← at, h.1) refl)

pub fails_along : {A : Type 0} (e : ReadError) (o p : Option A) → o ≡ p → Fails e o → Fails e p
fails_along e o p same h = subst (Fails e) same h

pub expr_fails : (w : ℕ) (s : List ℕ) (e : ReadError) → Fails e (start_at reading w s) → Fails e (reading.expr w s)
unfolding expr_at
expr_fails w s e h = fails_along e _ (reading.expr w s) (sym (reading_expr w s)) (fails_bind e (start_at reading w s) (λ x. reading.climb w x.0 x.1 x.2) h)

pub start_shorter : (w : ℕ) (s : List ℕ) (r : Result (Expr × ℕ × Bor (List ℕ)) ReadError) → Gives IsTreeStart r (start_at reading w s) → IfOk r (λ x. length x.2.now < length s)
start_shorter w s (Ok x) g =
    let f = sound.start_is reading sound_reading w s g.0 g.1 in
    rw (g.2.2) (omega (arith, ap length f.is, length-append f.text g.0.2, spelled_long f.spells))
start_shorter w s (Err e) g = tt

pub climbing_starts : (w : ℕ) (s : List ℕ) (left : Expr) (own : ℕ) (rest : List ℕ) (a : Tree × ℕ × List ℕ)
    → start_at reading w s ≡ Some a → tree_of left ≡ clip a.0 → own ≡ a.1 → rest ≡ a.2 → length rest < length s → Climbing w own left rest s
unfolding expr_at
climbing_starts w s left own rest a e same level_is rest_is short = record {
  tree = a.0;
  same = same;
  reads = rw (level_is, rest_is) (sym (reading_expr w s ∙ rw e refl));
  short = short;
}

-- the operator that goes on
climb_step : (w own : ℕ) (t : Tree) (op : Operator) (rest behind : List ℕ) → operator_at rest ≡ Some (op, behind) → (nat_le w (level op) && nat_le (left_level op) own) ≡ true
    → reading.climb w t own rest ≡ (reading.expr (right_level op) behind >>= λ z. reading.climb w (Tree.Binary op t z.0) (level op) z.1)
unfolding climb_at
climb_step w own t op rest behind e h = reading_climb w t own rest ∙ rw (e, h) refl

pub climb_fails : (w own : ℕ) (left : Expr) (op : Operator) (rest behind text : List ℕ) (e : ReadError) → Climbing w own left rest text
    → operator_at rest ≡ Some (op, behind) → (nat_le w (level op) && nat_le (left_level op) own) ≡ true
    → Fails e (reading.expr (right_level op) behind) → Fails e (reading.expr w text)
climb_fails w own left op rest behind text e k at h f =
    fails_along e _ (reading.expr w text) (sym (climb_step w own k.tree op rest behind at h) ∙ k.reads)
    (fails_bind e (reading.expr (right_level op) behind) (λ z. reading.climb w (Tree.Binary op k.tree z.0) (level op) z.1) f)

pub climbing_goes_on : (w own : ℕ) (left : Expr) (op : Operator) (rest behind text after : List ℕ) (right : Expr) (a b : Box Expr Global) → Climbing w own left rest text
    → operator_at rest ≡ Some (op, behind) → (nat_le w (level op) && nat_le (left_level op) own) ≡ true
    → (x : Tree × List ℕ) → reading.expr (right_level op) behind ≡ Some x → tree_of right ≡ clip x.0 → after ≡ x.1
    → a.value ≡ left → b.value ≡ right → length after < length text
    → Climbing w (level op) (views.Binary op a b) after text
climbing_goes_on w own left op rest behind text after right a b k at h x e same_right end a_is b_is short = record {
  tree = Tree.Binary op k.tree x.0;
  same = binary_view op a b ∙ ap (λ z. Tree.Binary op (tree_of z) (tree_of b.value)) a_is ∙ ap (λ z. Tree.Binary op (tree_of left) (tree_of z)) b_is
      ∙ ap (λ z. Tree.Binary op z (tree_of right)) k.same ∙ ap (λ z. Tree.Binary op (clip k.tree) z) same_right;
  reads = rw end (sym (climb_step w own k.tree op rest behind at h ∙ rw e refl) ∙ k.reads);
  short = short;
}

-- no operator goes on
climb_whole : (w own : ℕ) (t : Tree) (left : Expr) (rest text : List ℕ) → tree_of left ≡ clip t → reading.climb w t own rest ≡ reading.expr w text
    → climb_on reading w t own rest (operator_at rest) ≡ Some (t, rest) → (x : Tree × List ℕ) × (reading.expr w text ≡ Some x) × ((tree_of left ≡ clip x.0) × (rest ≡ x.1))
unfolding climb_at
climb_whole w own t left rest text same reads h = ((t, rest), sym reads ∙ reading_climb w t own rest ∙ h, (same, refl))

pub ends_alone : (w own : ℕ) (left : Expr) (rest text : List ℕ) → Climbing w own left rest text → operator_at rest ≡ None
    → (x : Tree × List ℕ) × (reading.expr w text ≡ Some x) × ((tree_of left ≡ clip x.0) × (rest ≡ x.1))
ends_alone w own left rest text k e = climb_whole w own k.tree left rest text k.same k.reads (rw e refl)

pub ends_before : (w own : ℕ) (left : Expr) (op : Operator) (rest behind text : List ℕ) → Climbing w own left rest text → operator_at rest ≡ Some (op, behind)
    → (nat_le w (level op) && nat_le (left_level op) own) ≡ false → (x : Tree × List ℕ) × (reading.expr w text ≡ Some x) × ((tree_of left ≡ clip x.0) × (rest ≡ x.1))
ends_before w own left op rest behind text k e h = climb_whole w own k.tree left rest text k.same k.reads (rw (e, h) refl)

-- each way in which an expression may begin
pub start_empty : (w : ℕ) → start_at reading w [] ≡ None
unfolding start_at
start_empty w = refl

pub start_group : (w : ℕ) (s : List ℕ) → start_at reading w (40 ∷ s) ≡ enclosed_at reading s
unfolding start_at
start_group w s = refl

pub start_plus : (w : ℕ) (s : List ℕ) → start_at reading w (43 ∷ s) ≡ signed_tree_at reading w Plus s
unfolding start_at
start_plus w s = refl

pub start_minus : (w : ℕ) (s : List ℕ) → start_at reading w (45 ∷ s) ≡ signed_tree_at reading w Minus s
unfolding start_at
start_minus w s = refl

pub start_dot : (w : ℕ) (s : List ℕ) → start_at reading w (46 ∷ s) ≡ dotted_at reading w (46 ∷ s)
unfolding start_at
start_dot w s = refl

pub start_word : (w c : ℕ) (s : List ℕ) → (c == 40) ≡ false
    → (c == 43) ≡ false → (c == 45) ≡ false → (c == 46) ≡ false → start_at reading w (c ∷ s) ≡ word_tree_at reading (word (c ∷ s)) (past_word (c ∷ s))
unfolding start_at
start_word w c s a b d e = rw (a, b, d, e) refl

-- the beginning of an expression, once it is known which way it begins
pub start_along : (w : ℕ) (s : List ℕ) (r : Result (Expr × ℕ × Bor (List ℕ)) ReadError) (o : Option (Tree × ℕ × List ℕ))
    → start_at reading w s ≡ o → Gives IsTreeStart r o → Gives IsTreeStart r (start_at reading w s)
start_along w s r o e g = rw e g

-- a group, a sign and .NOT.
pub group_whole : (s : List ℕ) (inner : Expr) (behind rest : List ℕ) (x : Tree × List ℕ) → reading.expr 1 s ≡ Some x → tree_of inner ≡ clip x.0 → behind ≡ x.1 → close_at behind ≡ Some rest
    → (a : Tree × ℕ × List ℕ) × (enclosed_at reading s ≡ Some a) × ((tree_of inner ≡ clip a.0) × (9 ≡ a.1) × (rest ≡ a.2))
group_whole s inner behind rest x e same end close = ((x.0, 9, rest), rw (e, ← end, close) refl, (same, refl, refl))

pub signed_whole : (w : ℕ) (sign : Sign) (s : List ℕ) (operand : Expr) (a : Box Expr Global) (rest : List ℕ) (x : Tree × List ℕ)
    → nat_le w 6 ≡ true → reading.expr 7 s ≡ Some x → tree_of operand ≡ clip x.0 → rest ≡ x.1 → a.value ≡ operand
    → (y : Tree × ℕ × List ℕ) × (signed_tree_at reading w sign s ≡ Some y) × ((tree_of (views.Signed sign a) ≡ clip y.0) × (6 ≡ y.1) × (rest ≡ y.2))
signed_whole w sign s operand a rest x low e same end a_is =
    ((Tree.Signed sign x.0, 6, x.1), rw (low, e) refl, (signed_view sign a ∙ ap (λ z. Tree.Signed sign (tree_of z)) a_is ∙ ap (λ z. Tree.Signed sign z) same, refl, end))

pub negated_whole : (w : ℕ) (s : List ℕ) (operand : Expr) (a : Box Expr Global) (rest : List ℕ) (x : Tree × List ℕ)
    → nat_le w 4 ≡ true → reading.expr 5 s ≡ Some x → tree_of operand ≡ clip x.0 → rest ≡ x.1 → a.value ≡ operand
    → (y : Tree × ℕ × List ℕ) × (negated_at reading w s ≡ Some y) × ((tree_of (views.Not a) ≡ clip y.0) × (4 ≡ y.1) × (rest ≡ y.2))
negated_whole w s operand a rest x low e same end a_is =
    ((Tree.Not x.0, 4, x.1), rw (low, e) refl, (not_view a ∙ ap (λ z. Tree.Not (tree_of z)) a_is ∙ ap Tree.Not same, refl, end))

-- LOGICAL constants, and what begins with .NOT.
pub true_whole : (w : ℕ) (s rest : List ℕ) → strip (codes ".TRUE.") s ≡ Some rest
    → (y : Tree × ℕ × List ℕ) × (dotted_at reading w s ≡ Some y) × ((tree_of (Truth true) ≡ clip y.0) × (9 ≡ y.1) × (rest ≡ y.2))
true_whole w s rest e = ((Tree.Truth true, 9, rest), rw e refl, (truth_view true, refl, refl))

pub false_whole : (w : ℕ) (s rest : List ℕ) → strip (codes ".TRUE.") s ≡ None → strip (codes ".FALSE.") s ≡ Some rest
    → (y : Tree × ℕ × List ℕ) × (dotted_at reading w s ≡ Some y) × ((tree_of (Truth false) ≡ clip y.0) × (9 ≡ y.1) × (rest ≡ y.2))
false_whole w s rest n e = ((Tree.Truth false, 9, rest), rw (n, e) refl, (truth_view false, refl, refl))

pub gives_along : {X A : Type 0} (Is : X → A → Type 0) (r : Result X ReadError) (o p : Option A) → p ≡ o → Gives Is r o → Gives Is r p
gives_along Is r o p e g = rw e g

-- names and constants
pub number_whole : (name rest : List ℕ) (n : ℕ) → is_number name ≡ true → n ≡ clipped (digits_value 10 name)
    → (y : Tree × ℕ × List ℕ) × (word_tree_at reading name rest ≡ Some y) × ((tree_of (Number n) ≡ clip y.0) × (9 ≡ y.1) × (rest ≡ y.2))
number_whole name rest n e same = ((Tree.Number (digits_value 10 name), 9, rest), rw e refl, (number_view n ∙ ap Tree.Number same, refl, refl))

pub scalar_whole : (name rest : List ℕ) (r : Ref) → is_number name ≡ false
    → is_name name ≡ true → named_at reading name rest ≡ Some (Tree.Reference name Trees.None, 9, rest) → r.name ≡ cut name → r.subscripts.items ≡ []
    → (y : Tree × ℕ × List ℕ) × (word_tree_at reading name rest ≡ Some y) × ((tree_of (views.Reference r) ≡ clip y.0) × (9 ≡ y.1) × (rest ≡ y.2))
scalar_whole name rest r e n h a b = (
  (Tree.Reference name Trees.None, 9, rest),
  rw (e, n) h,
  (
    reference_view r ∙ ap (λ z. Tree.Reference z (trees (map tree_of r.subscripts.items))) a
        ∙ ap (λ z. Tree.Reference (cut name) (trees (map tree_of z))) b,
    refl,
    refl,
  ),
)

-- no list follows a name
pub alone_at : (name rest : List ℕ) → tree_after 40 rest ≡ None → named_at reading name rest ≡ Some (Tree.Reference name Trees.None, 9, rest)
alone_at name [] h = refl
alone_at name (c ∷ s) h = step (c == 40) h
  where
    step : (b : Bool) → cond b (Some s) None ≡ None
        → cond b (reading.items s >>= λ x. closed (function_listed name x.0) x.1) (Some (Tree.Reference name Trees.None, 9, c ∷ s))
        ≡ Some (Tree.Reference name Trees.None, 9, c ∷ s)
    step true e = absurd (none-some s (sym e))
    step false e = refl

-- no comma follows an item
pub last_at : (t : Tree) (rest : List ℕ) → tree_after 44 rest ≡ None → more_at reading t rest ≡ Some (Trees.Then t Trees.None, rest)
last_at t [] h = refl
last_at t (c ∷ s) h = step (c == 44) h
  where
    grown : Trees × List ℕ → Option (Trees × List ℕ)
    grown x = Some (Trees.Then t x.0, x.1)

    step : (b : Bool) → cond b (Some s) None ≡ None → cond b (reading.items s >>= grown) (Some (Trees.Then t Trees.None, c ∷ s)) ≡ Some (Trees.Then t Trees.None, c ∷ s)
    step true e = absurd (none-some s (sym e))
    step false e = refl

clip_listed : (name : List ℕ) (items : Trees) → clip (function_listed name items) ≡ listed_by (function_named name) (cut name) (clip_all items)
clip_listed name items = by_name (function_named name)
  where
    by_name : (o : Option Intrinsic) → clip (listed_by o name items) ≡ listed_by o (cut name) (clip_all items)
    by_name None = refl
    by_name (Some f) = refl

pub listed_whole : (name inner behind rest : List ℕ) (got : Tree) (items : List Expr) (x : Trees × List ℕ) → is_number name ≡ false → is_name name ≡ true
    → reading.items inner ≡ Some x → trees (map tree_of items) ≡ clip_all x.0 → behind ≡ x.1 → close_at behind ≡ Some rest
    → got ≡ listed_by (function_named name) (cut name) (trees (map tree_of items))
    → (y : Tree × ℕ × List ℕ) × (word_tree_at reading name (40 ∷ inner) ≡ Some y) × ((got ≡ clip y.0) × (9 ≡ y.1) × (rest ≡ y.2))
listed_whole name inner behind rest got items x e n found same end close is =
    ((function_listed name x.0, 9, rest), rw (e, n, found, ← end, close) refl, (is ∙ ap (listed_by (function_named name) (cut name)) same ∙ sym (clip_listed name x.0), refl, refl))

-- lists
item_equation : (s : List ℕ) → reading.items s ≡ (reading.expr 1 s >>= λ x. more_at reading x.0 x.1)
unfolding trees_at
item_equation s = reading_items s ∙ rw (reading_expr 1 s) refl

pub list_fails : (items : List Expr) (rest text : List ℕ) (e : ReadError) → Listing items rest text → Fails e (reading.expr 1 rest) → Fails e (reading.items text)
list_fails items rest text e k h =
    fails_along e _ (reading.items text) k.reads (fails_bind e (reading.items rest) (λ x. Some (before k.front x.0, x.1))
    (fails_along e _ (reading.items rest) (sym (item_equation rest)) (fails_bind e (reading.expr 1 rest) (λ x. more_at reading x.0 x.1) h)))

before_push : (front : List Tree) (t : Tree) (ts : Trees) → before (front ++ t ∷ []) ts ≡ before front (Trees.Then t ts)
before_push [] t ts = refl
before_push (u ∷ front) t ts = ap (λ z. Trees.Then u z) (before_push front t ts)

trees_before : (front : List Tree) → trees (map clip front) ≡ clip_all (before front Trees.None)
trees_before [] = refl
trees_before (t ∷ front) = ap (λ z. Trees.Then (clip t) z) (trees_before front)

pushed : (items new : List Expr) (item : Expr) (front : List Tree) (t : Tree)
    → map tree_of items ≡ map clip front → tree_of item ≡ clip t → new ≡ items ++ item ∷ [] → map tree_of new ≡ map clip (front ++ t ∷ [])
pushed items new item front t h k e =
    rw e (map-append tree_of items (item ∷ []) ∙ ap (λ z. z ++ (tree_of item ∷ [])) h ∙ ap (λ z. map clip front ++ (z ∷ [])) k ∙ sym (map-append clip front (t ∷ [])))

pub list_goes_on : (items new : List Expr) (item : Expr) (rest text after next : List ℕ) (x : Tree × List ℕ) → Listing items rest text
    → reading.expr 1 rest ≡ Some x → tree_of item ≡ clip x.0 → after ≡ x.1 → new ≡ items ++ item ∷ [] → after ≡ 44 ∷ next → length after < length rest → Listing new next text
list_goes_on items new item rest text after next x k e same end added comma short = record {
  front = k.front ++ x.0 ∷ [];
  same = pushed items new item k.front x.0 k.same same added;
  reads = step (reading.items next) refl ∙ k.reads;
  short = let l = k.short in omega (arith, ap length comma);
}
  where
    grown : Trees × List ℕ → Option (Trees × List ℕ)
    grown y = Some (Trees.Then x.0 y.0, y.1)

    known : reading.items rest ≡ (reading.items next >>= grown)
    known = item_equation rest ∙ rw (e, sym end ∙ comma) refl

    shown : List Tree → Trees × List ℕ → Option (Trees × List ℕ)
    shown front y = Some (before front y.0, y.1)

    step : (o : Option (Trees × List ℕ)) → reading.items next ≡ o → (o >>= shown (k.front ++ x.0 ∷ [])) ≡ (reading.items rest >>= shown k.front)
    step None h = rw (known, h) refl
    step (Some y) h = rw (known, h, before_push k.front x.0 y.0) refl

pub list_ends : (items new : List Expr) (item : Expr) (rest text after : List ℕ) (x : Tree × List ℕ) → Listing items rest text
    → reading.expr 1 rest ≡ Some x → tree_of item ≡ clip x.0 → after ≡ x.1 → new ≡ items ++ item ∷ [] → more_at reading x.0 after ≡ Some (Trees.Then x.0 Trees.None, after)
    → (y : Trees × List ℕ) × (reading.items text ≡ Some y) × ((trees (map tree_of new) ≡ clip_all y.0) × (after ≡ y.1))
list_ends items new item rest text after x k e same end added alone =
    let known : reading.items rest ≡ Some (Trees.Then x.0 Trees.None, after) = item_equation rest ∙ rw (e, ← end) alone in (
      (before (k.front ++ x.0 ∷ []) Trees.None, after),
      sym k.reads ∙ rw (known, before_push k.front x.0 Trees.None) refl,
      (ap trees (pushed items new item k.front x.0 k.same same added) ∙ trees_before (k.front ++ x.0 ∷ []), refl),
    )

pub start_none : (w : ℕ) (s : List ℕ) → length s ≡ 0 → start_at reading w s ≡ None
start_none w [] e = start_empty w
start_none w (c ∷ s) e = absurd (omega arith)

-- the reference that is assigned to
pub reference_whole : (s rest : List ℕ) (r : Ref) (x : List ℕ × Trees × List ℕ) → reference_at s ≡ Some x → r.name ≡ cut x.0 → trees (map tree_of r.subscripts.items) ≡ clip_all x.1 → rest ≡ x.2
    → (y : List ℕ × Trees × List ℕ) × (reference_at s ≡ Some y) × (((reference_fields r).0 ≡ cut y.0) × (trees (reference_fields r).1 ≡ clip_all y.1) × (rest ≡ y.2))
reference_whole s rest r x e named same end = (x, e, (ap (λ p. p.0) (ref_view r) ∙ named, ap (λ p. trees p.1) (ref_view r) ∙ same, end))
