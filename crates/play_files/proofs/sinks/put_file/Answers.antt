use Rattle.std.proofs.Common.{◌≡◌, Some, None, ◌∙◌}
use Rattle.std.proofs.lemmas.Option.{get_or_from_slice_get}
use Rattle.play_files.proofs.sinks.put_file.Goals as goal

pub unreachable-requires : goal.unreachable-requires
unreachable-requires g c =
    let a = get_or_from_slice_get c.args.files.now c.args.place None c.index-files-place.result c.requires.free in
    let z : Some c.in-Some.field-0 ≡ None = c.in-Some.ensures.value ∙ a in
    absurd cc
