use Rattle.std.proofs.Common.{◌≡◌, true, get_or, sym, subst, arith}
use Rattle.std.specs.Str.{bytes_eq}
use Rattle.std.proofs.lemmas.List.Sums.{position_or_len_is}
use Rattle.script_lang.specs.declared.play_line.PartLine.{PartLine}
use Rattle.stream_plan.proofs.Defaults.{no_part}
use Rattle.stream_plan.proofs.joining.place_named.Goals as goal

pub returns-then-eq : goal.returns-then-eq
returns-then-eq c =
    let parts = c.args.parts.now in
    let part = c.index-parts-place.result in
    let hit : bytes_eq part.name c.args.name.now ≡ true = cc (c.if-eq.ensures, c.as_bytes.ensures.bytes, c.as_bytes-in-loop-place.ensures.bytes) in
    let here : bytes_eq (get_or parts c.loop-place.place part).name c.args.name.now ≡ true =
    subst (λ (p : PartLine). bytes_eq p.name c.args.name.now ≡ true) c.index-parts-place.is hit in
    sym (position_or_len_is (λ (p : PartLine). bytes_eq p.name c.args.name.now) parts c.loop-place.place part (omega arith) (c.loop-place.invariant part) (λ _. here))

pub returns : goal.returns
returns c =
    let parts = c.args.parts.now in
    sym (position_or_len_is (λ (p : PartLine). bytes_eq p.name c.args.name.now) parts _ no_part (omega arith)
    (λ k below. c.loop-place.invariant no_part k (omega arith)) (λ below. absurd (omega arith)))
