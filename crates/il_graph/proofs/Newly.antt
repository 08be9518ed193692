-- A part that was just made is that of a component that was just made.
use Rattle.std.proofs.Common.{◌≡◌, ℕ, ◌<◌, false, nat_eq, nat_le, length, refl, sym, ap, option_map, arith}
use Rattle.std.proofs.lemmas.Bool.Decides.{nat_tests}
use Rattle.omx_types.specs.declared.handle.Handle.{Handle}
use Rattle.omx_types.specs.declared.kind.Kind.{Kind}
use Rattle.part_api.specs.Terms.{Terms}
use Rattle.il_machine.specs.Components.{is_full}
use Rattle.il_machine.specs.Look.{Look}
use Rattle.il_machine.specs.Parts.{terms_of}
use Rattle.il_machine.specs.World.{fresh, fresh_stream}
use Rattle.il_machine.specs.Whole.{HasDone}
use Rattle.stock_laws.proofs.Streams.{fresh_done}
use Rattle.audio_parts.specs.AnyParts.{attached_of}
use Rattle.audio_parts.specs.Shown.{ShownPart}
use Rattle.il_graph.specs.Filed.{IsNew}
use Rattle.il_graph.specs.Shown.{IsPartOf, seen_of}
use Rattle.il_graph.proofs.Ready.{either_of}

module _ {S K : Type 0} (h : Handle) (kind : Kind) (p : ShownPart S K) (N : IsNew kind p) where
  pub new_done : (n : ℕ) → HasDone (terms_of (fresh h kind)) false (fresh_stream n) (seen_of p)
  new_done n = fresh_done (terms_of (fresh h kind)) false n (seen_of p) refl N.left N.rest

  pub new_tied : IsPartOf (fresh h kind) p
  new_tied = record {
    kind = ap (λ (t : Terms). t.kind) N.terms;
    lawful = N.lawful;
    file = ap (option_map attached_of) N.file;
    attached = ap (λ (t : Terms). t.file) N.terms;
    failed = N.failed;
  }

-- there is room for one more
pub not_full : (l : Look) → false ≡ is_full l → length l.components < 32
not_full l e =
    let a : nat_le 32 (length l.components) ≡ false = (either_of (nat_le 32 (length l.components)) (nat_eq l.numbered 18446744073709551615) (sym e)).0 in
    grind (arith, nat_tests)
