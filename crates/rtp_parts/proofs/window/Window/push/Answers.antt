use Rattle.std.proofs.Common.{◌≡◌, ℕ, List, max, map, ap, ◌∙◌, arith, refl}
use Rattle.rtp_parts.specs.declared.window.Held.{Held}
use Rattle.rtp_parts.specs.Sorting.{placed}
use Rattle.rtp_parts.specs.Steps.{numbered_of}
use Rattle.rtp_parts.proofs.WindowLines.{push-placed, line_is}
use Rattle.rtp_parts.proofs.window.Window.push.Goals as goal

pub returns-clause-kept : goal.returns-clause-kept
returns-clause-kept c =
    let held : Held = record { number = c.args.number; timestamp = c.args.timestamp; payload = c.in_ok-to_vec.field-0 } in
    let greatest : c.args.number ≡ max c.args.self.now.greatest c.args.number = omega (arith, c.requires.above) in
    line_is _ _ greatest
    (ap (map numbered_of) c.in_ok-push_back.ensures.items
    ∙ push-placed held c.args.self.now.greatest c.args.self.now.held.items c.args.self.now.most c.requires.above
    ∙ ap (λ (p : List ℕ). placed (record { number = c.args.number; timestamp = c.args.timestamp; payload = p }) (map numbered_of c.args.self.now.held.items)) (c.in_ok-to_vec.ensures.items_if_clones_equal (λ x y same. same)))
    refl refl refl
