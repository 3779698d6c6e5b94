use Rattle.f77_terms.proofs.splitting.+is_refuted_with.Given as goal

abbrev pub decreases-is_refuted_with : goal.decreases-is_refuted_with
decreases-is_refuted_with l = l.splits
