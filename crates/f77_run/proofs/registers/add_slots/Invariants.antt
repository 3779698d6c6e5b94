use Rattle.f77_run.proofs.Common.{◌≡◌, length, map, ◌++◌, option_map, list_all, coded, is_fitting, read_as, are_held, constant_value, loaded, values_fit}
use Rattle.f77_run.proofs.Pushed.{pairs_left}
use Rattle.f77_run.proofs.registers.add_slots.Given as goal

-- the registers so far, with those of the other slots
abbrev pub invariant-loop-kind : goal.invariant-loop-kind
invariant-loop-kind l = record {
  items : l.registers.items ++ map (λ pair. coded (read_as pair.0 pair.1)) (pairs_left l.kinds (map (option_map constant_value) l.constants) (length l.yielded))
      ≡ l.initial.registers.items ++ loaded l.kinds (map (option_map constant_value) l.constants);
  held : are_held (loaded l.kinds (map (option_map constant_value) l.constants))
      ≡ are_held (map (λ pair. coded (read_as pair.0 pair.1)) (pairs_left l.kinds (map (option_map constant_value) l.constants) (length l.yielded)));
  fitting : values_fit l.kinds (map (option_map constant_value) l.constants)
      ≡ list_all (λ pair. is_fitting (read_as pair.0 pair.1)) (pairs_left l.kinds (map (option_map constant_value) l.constants) (length l.yielded));
}
