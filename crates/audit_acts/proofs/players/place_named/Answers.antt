use Rattle.std.proofs.Common.{◌≡◌, ◌<◌, length, nat_lt, slice_get, Some, sym, ◌∙◌, ap, arith}
use Rattle.std.proofs.lemmas.Bool.{ltb-true, ltb-false}
use Rattle.std.proofs.lemmas.Option.{slice_get-get_or, slice_get_within}
use Rattle.machine_laws.proofs.Finding.{either}
use Rattle.script_lang.specs.declared.play_line.PartLine.{PartLine}
use Rattle.audit_acts.proofs.players.place_named.Goals as goal

pub loop-place-preserved : goal.loop-place-preserved
loop-place-preserved c = λ k part at below e. either (nat_lt k c.loop-place.place)
    (λ t. c.loop-place.invariant k part at (ltb-true k c.loop-place.place t) e)
    (λ f.
    let parts = c.args.parts.now in
    let item = c.index-parts-place.result in
    let past = ltb-false k c.loop-place.place f in
    let i : k ≡ c.loop-place.place = omega (arith, below, past) in
    let within : c.loop-place.place < length parts = omega arith in
    let there : slice_get parts c.loop-place.place ≡ Some item = slice_get-get_or parts c.loop-place.place item within ∙ ap Some (sym c.index-parts-place.is) in
    let s : Some item ≡ Some part = sym there ∙ (ap (slice_get parts) (sym i) ∙ at) in
    let is : item ≡ part = cc in
    c.is_same_name.ensures.no c.if-is_same_name.false (ap (λ (p : PartLine). p.name) is ∙ e))

pub returns-then-is_same_name-clause-some : goal.returns-then-is_same_name-clause-some
returns-then-is_same_name-clause-some c =
    let parts = c.args.parts.now in
    let item = c.index-parts-place.result in
    let within : c.loop-place.place < length parts = omega arith in
    let there : slice_get parts c.loop-place.place ≡ Some item = slice_get-get_or parts c.loop-place.place item within ∙ ap Some (sym c.index-parts-place.is) in
    (item, there, c.is_same_name.ensures.yes c.if-is_same_name.true)

pub returns-clause-none : goal.returns-clause-none
returns-clause-none c = λ k part at e.
    let within : k < length c.args.parts.now = slice_get_within c.args.parts.now k part at in
    c.loop-place.invariant k part at (omega arith) e
