-- Runs one behind another.
use Rattle.std.proofs.Common.{subst, refl, List, [], ◌∷◌, ◌++◌}
use Rattle.il_machine.specs.World.{World}
use Rattle.il_machine.specs.Acts.{Act, Reply}
use Rattle.il_machine.specs.Run.{Run, Meets, Step}
use Rattle.il_machine.specs.Trails.{Move, moves, RunMoves}

pub run_joined : (u w v : World) (xs ys : List (Act × Reply)) → Run u xs w → Run w ys v → Run u (xs ++ ys) v
run_joined u w v [] ys e r = subst (λ z. Run z ys v) e r
run_joined u w v (x ∷ xs) ys h r = (h.0, h.1, h.2, run_joined h.0 w v xs ys h.3 r)

pub run_cut : (u v : World) (xs ys : List (Act × Reply)) → Run u (xs ++ ys) v → (w : World) × Run u xs w × Run w ys v
run_cut u v [] ys r = (u, refl, r)
run_cut u v (x ∷ xs) ys h = let c = run_cut h.0 v xs ys h.3 in (c.0, (h.0, h.1, h.2, c.1), c.2)

-- one more act
pub run_snoc : (w mid v : World) (xs : List (Act × Reply)) (a : Act) (r : Reply) → Run w xs mid → Meets mid a → Step mid a r v → Run w (xs ++ (a, r) ∷ []) v
run_snoc w mid v xs a r h m s = run_joined w mid v xs ((a, r) ∷ []) h (v, m, s, refl)

pub run_moves : (w v : World) (xs : List (Act × Reply)) → Run w xs v → (ms : List Move) × RunMoves w xs ms v
run_moves w v [] e = ([], (e, refl))
run_moves w v (x ∷ xs) h = let r = run_moves h.0 v xs h.3 in (moves w x.0 x.1 ++ r.0, (h.0, r.0, h.1, h.2, r.1, refl))
