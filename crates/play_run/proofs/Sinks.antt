-- The file objects of a plan's sinks.
use Rattle.std.proofs.Common.{◌≡◌, ℕ, Bool, List, slice_get, slice_index_or, Option, Some, None, option_map, refl, ◌∙◌, ap}
use Rattle.omx_types.specs.declared.kind.Kind.{Kind}
use Rattle.omx_types.specs.declared.kind.Kind.TheVariants as kinds
use Rattle.outside_io.specs.declared.sink.Sink.{Ghosts as SinkGhosts}
use Rattle.outside_io.specs.declared.source.Source.{Ghosts as SourceGhosts}
use Rattle.audio_parts.specs.Objects.{ObjectStays}
use Rattle.audio_parts.specs.declared.part_file.PartFile.{PartFile}
use Rattle.audio_parts.specs.declared.part_file.PartFile.TheVariants as files
use Rattle.il_machine.specs.Files.{OfferedTo}
use Rattle.il_graph.specs.Shown.{offered}
use Rattle.script_lang.specs.declared.play_line.PartForm.{PartForm}
use Rattle.script_lang.specs.declared.play_line.PartForm.TheVariants as forms
use Rattle.script_lang.specs.declared.play_line.PartLine.{PartLine}
use Rattle.play_forms.specs.Parts.{kind_of, source_number}
use Rattle.play_forms.specs.Plans.{PlanValue}
use Rattle.play_plan_laws.specs.Assemblies.{PlayFiles, file_at, file_of, kind_in}
use Rattle.play_result_laws.specs.Files.{IsWriter, written_by}
use Rattle.play_run.specs.Playing.{unfailed}

writer_is_sink : (form : PartForm) (name : List ℕ) → written_by form ≡ Some name → kind_of form ≡ kinds.Sink
writer_is_sink (forms.Source file) name h = absurd cc
writer_is_sink (forms.Late file) name h = absurd cc
writer_is_sink forms.Decoder name h = absurd cc
writer_is_sink forms.Alaw name h = absurd cc
writer_is_sink forms.Mulaw name h = absurd cc
writer_is_sink (forms.Gain gain) name h = absurd cc
writer_is_sink (forms.Mixer weights) name h = absurd cc
writer_is_sink (forms.Splitter outputs) name h = absurd cc
writer_is_sink (forms.Sink file) name h = refl

-- what the machine is offered of a sink's file
pub sink_offer : (plan : PlanValue) (given : PlayFiles) (place : ℕ) (name : List ℕ) → IsWriter plan.parts place name → (frames : ℕ) × (file_at plan given place ≡ Some (OfferedTo frames (given.known place)))
sink_offer plan given place name (part, e, writes) =
    let heads = slice_get given.heads (source_number plan.parts place) in
    let frames = slice_index_or plan.frames place 0 in (
      frames,
      ap (λ (o : Option PartLine). file_of (kind_in o) heads frames (given.there place) (given.known place)) e
          ∙ ap (λ (kind : Kind). file_of kind heads frames (given.there place) (given.known place)) (writer_is_sink part.form name writes),
    )

module _ {S K : Type 0} (reads : SourceGhosts S) (writes : SinkGhosts K) where
  -- only a file that is written is offered so
  pub sink_entry : (file : Option (PartFile S K)) (n : ℕ) (known : Option (List ℕ)) → option_map (offered reads.offset reads.size reads.told writes.told) file ≡ Some (OfferedTo n known)
      → (snk : K) × (frames : ℕ) × (file ≡ Some (files.To snk frames)) × (writes.told snk ≡ known)
  sink_entry None n known e = absurd cc
  sink_entry (Some (files.From src format frames)) n known e = absurd cc
  sink_entry (Some (files.To snk frames)) n known e = (snk, frames, refl, let s : Some (OfferedTo frames (writes.told snk)) ≡ Some (OfferedTo n known) = e in let t : OfferedTo frames (writes.told snk) ≡ OfferedTo n known = cc in cc)

  pub sink_stays : (snk : K) (frames : ℕ) (file : Option (PartFile S K)) (failed : Bool) → ObjectStays reads.name reads.size reads.told reads.ends reads.offset reads.faults writes.name writes.faults (unfailed (Some (files.To snk frames))) (record { failed = failed; file = file })
      → (now : K) × (count : ℕ) × (file ≡ Some (files.To now count))
  sink_stays snk frames None failed h = absurd h.1
  sink_stays snk frames (Some (files.From src format count)) failed h = absurd h.1
  sink_stays snk frames (Some (files.To now count)) failed h = (now, count, refl)
