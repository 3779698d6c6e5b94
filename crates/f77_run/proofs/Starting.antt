-- Registers and counters at the start of a run, and the run of a checked program itself.
use Rattle.f77_run.proofs.Common.{◌≡◌, length, sym, ◌∙◌, ap, subst, List, arith, refl, ℕ, true, [], map, ◌∷◌, ◌++◌, None, ℤ, ◌+◌, Bool, suc, zero, false}
use Rattle.f77_run.proofs.Common.{option_map, if◌then◌else◌, replicate, zip, Resolved, CheckedFields, IsChecked, one_if, loop_count, Cells, is_loop, IsCode}
use Rattle.f77_run.proofs.Common.{Code, Turn, kind_of, bounds_of, empty_size, kinds_count, AreFitting, all_filled, constant_value, Arg, line_of, AreAtStart}
use Rattle.f77_run.proofs.Common.{counters_of, AreLoaded, cells_at_start, IsImage, RunOf, HasCode, Registers, Kind}
use Rattle.f77_code.proofs.Counters.{more}
use Rattle.f77_run.proofs.Loaded.{idle}

-- one more counter that is idle, where the statement is a DO
idle_more : (b : Bool) (n : ℕ) → (if b then idle ∷ [] else []) ++ replicate n idle ≡ replicate (one_if b + n) idle
idle_more true n = let one : suc n ≡ 1 + n = omega arith in ap (λ k. replicate k idle) one
idle_more false n = let none : n ≡ 0 + n = omega arith in ap (λ k. replicate k idle) none

-- where no DO is active each counter is idle
pub idle_counters : (statements : List Resolved) (n : ℕ) → n ≡ length statements
    → counters_of statements (replicate n None) ≡ replicate (loop_count statements) idle
idle_counters [] n long = refl
idle_counters (r ∷ statements) zero long = absurd (omega (arith, long))
idle_counters (r ∷ statements) (suc n) long =
    ap (λ rest. (if is_loop r.action then idle ∷ [] else []) ++ rest) (idle_counters statements n (omega (arith, long)))
    ∙ idle_more (is_loop r.action) (loop_count statements)
    ∙ ap (λ k. replicate k idle) (sym (more r statements))

module _ (checked : CheckedFields) (is : IsChecked checked) where
  -- the slots, with what DATA gives them
  abbrev pub initial_cells : Cells
  initial_cells = map (option_map constant_value) checked.start.initial.items

  -- there are as many slots as kinds of slots
  pub slots_counted : (n : ℕ) → n ≡ checked.slots → n ≡ length checked.start.kinds.items
  slots_counted n same =
      let program = map line_of checked.program in
      same ∙ is.slots ∙ sym (ap length is.start.kinds ∙ kinds_count (kind_of program) (bounds_of program) checked.names)

  -- there are as many slots as DATA may give values
  pub initial_counted : length initial_cells ≡ length checked.start.kinds.items
  initial_counted = slots_counted (length initial_cells) (empty_size checked is ∙ sym is.slots)

  -- The registers of the image, once the arguments are put there, are those at the start of a run with them.
  pub arguments_put : (arguments : List Arg) (constants : List ℤ) (image : Registers) → IsImage checked constants image
      → (kinds : List Kind) → kinds ≡ checked.start.kinds.items → (slots : List ℕ) → slots ≡ checked.start.dummies.items
      → (before after : List ℤ) → before ≡ image.items.items
      → ((cells : Cells) (constants : List ℤ) → AreLoaded kinds cells constants before → AreLoaded kinds (all_filled cells (zip slots arguments)) constants after)
      → (registers : List ℤ) (turns : List Turn) → registers ≡ after → turns ≡ image.counters.items → AreAtStart checked arguments constants registers turns
  arguments_put arguments constants image is_image kinds kinds_are slots slots_are before after copied put registers turns back counts =
      let loads : AreLoaded kinds initial_cells constants before = rw (kinds_are, copied) is_image.registers in
      let there : AreLoaded checked.start.kinds.items (cells_at_start checked arguments) constants after
      = subst (λ (kinds : List Kind). AreLoaded kinds (cells_at_start checked arguments) constants after) kinds_are
      (subst (λ slots. AreLoaded kinds (all_filled initial_cells (zip slots arguments)) constants after) slots_are (put initial_cells constants loads)) in
      record {
        loaded = subst (AreLoaded checked.start.kinds.items (cells_at_start checked arguments) constants) (sym back) there;
        counters = counts ∙ is_image.counters;
      }

  module _ (arguments : List Arg) (fits : AreFitting checked.arguments arguments) where
    -- the run of the program itself
    abbrev pub own_run : RunOf
    own_run = record { checked = checked; program = map line_of checked.program; arguments = arguments }

    pub own_compiled : (code : Code) → IsCode checked.statements code → code.constants.slots ≡ checked.slots → HasCode own_run checked.statements code
    own_compiled code code_is slots = record {
      of = record {
        checked = is;
        fitting = fits;
        formed = is.formed;
        legal = is.legal;
        resolved = is.statements;
        frame = refl;
      };
      code_is = code_is;
      slots = slots;
    }
