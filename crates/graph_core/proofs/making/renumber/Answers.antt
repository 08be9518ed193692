use Rattle.std.proofs.Common.{◌≡◌, ◌<◌, length, slice_get, Some, IsSome, refl, ◌∙◌, subst, arith, rules}
use Rattle.std.proofs.lemmas.Option.{slice_get_read}
use Rattle.omx_types.specs.declared.handle.Handle.{Handle}
use Rattle.il_machine.specs.Places.{shift}
use Rattle.registry.specs.Handles.{resolved, Sets}
use Rattle.graph_core.proofs.Renumbered.{shifted_there, shifted_step, shifted_end, sets_given}
use Rattle.graph_core.proofs.making.renumber.Goals as goal

pub unreachable-requires : goal.unreachable-requires
unreachable-requires g c =
    let e = c.index-components-place.result in
    let k = c.loop-place.place in
    let b : k < length c.args.components.now = omega arith in
    let there : slice_get c.args.components.now k ≡ Some e = slice_get_read c.args.components.now (length c.args.components.now) k e refl b c.index-components-place.is in
    let rs : resolved c.loop-place.registry c.handle.result ≡ Some (shift k k) = rw c.handle.ensures (shifted_there c.args.components.now c.loop-place.registry k e c.loop-place.invariant.shifted there) in
    let f = rw rs at c.in-Err.ensures.found in
    cc

pub loop-place-preserved : goal.loop-place-preserved
loop-place-preserved g c =
    let e = c.index-components-place.result in
    let k = c.loop-place.place in
    let b : k < length c.args.components.now = omega arith in
    let there : slice_get c.args.components.now k ≡ Some e = slice_get_read c.args.components.now (length c.args.components.now) k e refl b c.index-components-place.is in
    let rs : resolved c.loop-place.registry c.handle.result ≡ Some (shift k k) = rw c.handle.ensures (shifted_there c.args.components.now c.loop-place.registry k e c.loop-place.invariant.shifted there) in
    let some : IsSome (resolved c.loop-place.registry c.handle.result) = rw rs (search rules) in
    let S = c.in-Ok.ensures.set in
    let T = subst (λ (h : Handle). Sets c.loop-place.registry c.set.new.self h k) c.handle.ensures S in
    record {
      shifted = shifted_step c.args.components.now c.loop-place.registry c.set.new.self k e c.loop-place.invariant.shifted there T;
      given = sets_given c.loop-place.registry c.set.new.self c.handle.result k c.loop-place.invariant.given some S;
      numbered = S.given ∙ c.loop-place.invariant.numbered;
      live = S.live ∙ c.loop-place.invariant.live;
    }

pub returns-clause-places : goal.returns-clause-places
returns-clause-places g c =
    let l : c.loop-place.place ≡ length c.args.components.now = omega (arith, c.loop-place.auto.place-end c.requires.from) in
    shifted_end c.args.components.now c.loop-place.registry c.loop-place.place c.loop-place.invariant.shifted l
