use Rattle.std.proofs.Common.{◌≡◌, ◌≤◌, ◌<◌, ◌^◌, ◌-◌, ◌+◌, ◌⊎◌, ℕ, List, None, IfSome, is_some, false, codes}
use Rattle.omx_types.specs.Formats.{IsWithinLimits}
use Rattle.outside_io.specs.Asking.{AsksWithin}
use Rattle.outside_io.specs.Moves.{WhereTold}
use Rattle.wav_form.specs.Chunks.{Chunk, AreChunks, first_named}
use Rattle.wav_form.specs.Passing.{IsPassedOver}
use Rattle.wav_form.specs.Search.{answer_after}
use Rattle.wav_form.proofs.heads.search.Given as goal

abbrev pub invariant-loop-offset : goal.invariant-loop-offset
invariant-loop-offset g l = record {
  small : l.offset < 2 ^ 34;
  known : IfSome l.known IsWithinLimits;
  told : g.S.Source.told l.src ≡ g.S.Source.told l.initial.src;
  src_name : g.S.Source.name l.src ≡ g.S.Source.name l.initial.src;
  ends : g.S.Source.ends l.src ≡ g.S.Source.ends l.initial.src;
  size : g.S.Source.size l.src ≡ g.S.Source.size l.initial.src;
  faults : g.S.Source.faults l.src ≡ g.S.Source.faults l.initial.src;
  far : 12 ≤ l.offset;
  asks : AsksWithin (g.S.Source.asked l.initial.src) (g.S.Source.asked l.src) l.offset;
  rest : WhereTold (g.S.Source.told l.initial.src) (λ bytes. (chunks : List Chunk) → AreChunks bytes 12 chunks →
      (rest : List Chunk) × AreChunks bytes l.offset rest × (answer_after bytes None chunks ≡ answer_after bytes l.known rest)
      × ((offset next : ℕ) → IsPassedOver (is_some l.known) rest offset next → IsPassedOver false chunks offset next)
      × (first_named (codes "data") chunks ≡ first_named (codes "data") rest));
  reached : WhereTold (g.S.Source.ends l.initial.src) (λ end. WhereTold (g.S.Source.told l.initial.src) (λ bytes.
      (chunks : List Chunk) → AreChunks bytes 12 chunks → (l.offset ≤ end) ⊎ IsPassedOver false chunks end l.offset));
}

abbrev pub decreases-loop-offset : goal.decreases-loop-offset
decreases-loop-offset g l = l.size + 1 - l.offset
