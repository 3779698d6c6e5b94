-- The view of a pass, and how each step changes it.
use Rattle.std.specs.Prelude.{ℕ, ◌+◌, ◌-◌, Bool, ◌&&◌, ◌==◌, List, [], ◌∷◌, ◌++◌, map, slice_index_or, slice_set}
use Rattle.mothra_codes.specs.declared.op.Op.{Op}
use Rattle.mothra_codes.specs.Op.{index}
use Rattle.mothra_exchange.specs.declared.word.Word.{Word}
use Rattle.mothra_exchange.specs.declared.view.Look.{Look}
use Rattle.mothra_exchange.specs.declared.view.Closing.{Closing}
use Rattle.mothra_exchange.specs.declared.view.View.{View}
use Rattle.mothra_exchange.specs.Word.{field, opening_word, word_after_offer}
use Rattle.mothra_exchange.specs.Word.{word_after_take, word_after_close, greater_word}
use Rattle.mothra_codes.specs.Ticket.{one_if, ticket}

abbrev pub closing : Op → ℕ → Closing
closing op k = record { op = op; offered = k }

-- the closing is that of the operator at the place i, with k tickets offered
abbrev pub closes_operator : ℕ → ℕ → Closing → Bool
closes_operator i k c = index c.op == i && c.offered == k

-- how many of the closings are of the operator at the place i, with k tickets offered
abbrev pub times_closed : ℕ → ℕ → List Closing → ℕ
times_closed i k [] = 0
times_closed i k (c ∷ cs) = one_if (closes_operator i k c) + times_closed i k cs

-- the sum of f over the views
abbrev pub total : (View → ℕ) → List View → ℕ
total f [] = 0
total f (v ∷ vs) = f v + total f vs

-- 1 where the operator is closed with k tickets offered, else 0
abbrev pub once_if_closed : Word → ℕ → ℕ
once_if_closed w k = one_if (w.closed && w.offered == k)

-- the look at an operator with n tickets, before anything was loaded
abbrev pub first_look : ℕ → Look
first_look n = record { loads = 0; loaded = opening_word n; seen = opening_word n }

-- what the view saw of the operator at the place i
abbrev pub look_at : View → ℕ → Look
look_at v i = slice_index_or v.looks i (first_look 0)

-- the number of shares of an exchange
abbrev pub whole_part : ℕ
whole_part = field

-- the view of the first pass of an exchange, which has all shares
abbrev pub whole_view : List ℕ → View
whole_view counts = record {
  counts = counts;
  part = whole_part;
  offered = [];
  taken = [];
  closings = [];
  looks = map first_look counts;
  mine = [];
  theirs = [];
}

-- the view of a pass that was merged into another
abbrev pub spent_view : View
spent_view = record {
  counts = [];
  part = 0;
  offered = [];
  taken = [];
  closings = [];
  looks = [];
  mine = [];
  theirs = [];
}

-- the view with this look at the operator at the place i
abbrev pub with_look : View → ℕ → Look → View
with_look v i l = record v { looks = slice_set v.looks i l }

-- the view after a load that found w
abbrev pub view_after_load : View → ℕ → Word → View
view_after_load v i w =
    with_look v i (record { loads = (look_at v i).loads + 1; loaded = w; seen = w })

-- the view after a compare-exchange that found or wrote w
abbrev pub view_after_finding : View → ℕ → Word → View
view_after_finding v i w =
    with_look v i (record { loads = (look_at v i).loads; loaded = (look_at v i).loaded; seen = w })

-- the view after an offer, take or close that found w and won
abbrev pub view_after_offer : View → Op → Word → View
view_after_offer v op w = record (view_after_finding v (index op)
    (word_after_offer w)) { offered = v.offered ++ ticket op (w.offered + 1) ∷ [] }

abbrev pub view_after_take : View → Op → Word → View
view_after_take v op w = record (view_after_finding v (index op)
    (word_after_take w)) { taken = v.taken ++ ticket op (w.handed + 1) ∷ [] }

abbrev pub view_after_close : View → Op → Word → View
view_after_close v op w = record (view_after_finding v (index op)
    (word_after_close w)) { closings = v.closings ++ closing op w.offered ∷ [] }

-- the views after a split: the old pass gives one share, and the new one
-- has seen what the old one saw
abbrev pub view_after_split : View → View
view_after_split v = record v { part = v.part - 1 }

abbrev pub split_off_view : View → View
split_off_view v = record {
  counts = v.counts;
  part = 1;
  offered = [];
  taken = [];
  closings = [];
  looks = v.looks;
  mine = [];
  theirs = [];
}

-- the look after a merge: the loads of the pass that stays, and the greater of the words seen
abbrev pub joined_look : Look → Look → Look
joined_look a b = record { loads = a.loads; loaded = a.loaded; seen = greater_word a.seen b.seen }

-- the looks at all operators after a merge
abbrev pub joined_looks : List Look → List Look → List Look
joined_looks [] bs = []
joined_looks (a ∷ rest) [] = a ∷ rest
joined_looks (a ∷ rest) (b ∷ bs) = joined_look a b ∷ joined_looks rest bs

-- the view after a merge, of the pass that stays
abbrev pub united_view : View → View → View
united_view v w = record {
  counts = v.counts;
  part = v.part + w.part;
  offered = v.offered ++ w.offered;
  taken = v.taken ++ w.taken;
  closings = v.closings ++ w.closings;
  looks = joined_looks v.looks w.looks;
  mine = [];
  theirs = [];
}
