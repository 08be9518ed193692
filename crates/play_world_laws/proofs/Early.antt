-- A sink is no late source.
use Rattle.std.proofs.Common.{◌≡◌, true, false, refl}
use Rattle.omx_types.specs.declared.kind.Kind.{Kind}
use Rattle.omx_types.specs.declared.kind.Kind.TheVariants as kinds
use Rattle.il_machine.specs.Kinds.{is_late, is_sink}

pub sink_not_late : (kind : Kind) → is_sink kind ≡ true → is_late kind ≡ false
sink_not_late kinds.Late h = absurd cc
sink_not_late _ h = refl
