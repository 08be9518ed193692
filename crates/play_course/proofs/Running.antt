-- A run that didn't begin, and files that are the same.
use Rattle.std.proofs.Common.{◌≡◌, ℕ, ◌-◌, List, [], drop, length, slice_get, Option, Some, None, option_map, Err, inl, refl, sym, ◌∙◌, ap, subst, arith}
use Rattle.std.specs.List.{slice_index_or}
use Rattle.std.specs.Io.KnownBytes.{append_known}
use Rattle.std.proofs.lemmas.List.{append-nil}
use Rattle.std.proofs.lemmas.Option.{slice_get_within}
use Rattle.il_machine.specs.Files.{OfferedFrom, OfferedTo}
use Rattle.script_lang.specs.declared.play_line.PartForm.{PartForm}
use Rattle.script_lang.specs.declared.play_line.PartForm.TheVariants as forms
use Rattle.script_lang.specs.declared.play_line.PartLine.{PartLine}
use Rattle.wav_form.specs.declared.heads.WavHead.{WavHead}
use Rattle.play_build_laws.proofs.Places.{get_there}
use Rattle.play_forms.specs.Parts.{kind_of, source_number}
use Rattle.play_forms.specs.Plans.{PlanValue}
use Rattle.play_plan_laws.specs.Assemblies.{PlayFiles, file_at, file_of, kind_in}
use Rattle.play_result_laws.specs.Files.{IsWriter, written_by}
use Rattle.play_files.specs.Seen.{FileSeen, Reads, SinkSeen, Writes, offer}
use Rattle.play_course.specs.declared.player.RunFault.TheVariants as Faults
use Rattle.play_course.specs.Courses.{HasRun}
use Rattle.play_course.specs.Players.{AreFilesOf, CanPlay}
use Rattle.play_course.specs.Running.{AreSameFiles, IsSameFile}

same_file : (file : Option FileSeen) → IsSameFile file file
same_file (Some (Reads source format frames)) = record { name = refl; size = refl; told = refl; ends = refl; faults = omega arith }
same_file (Some (Writes sink frames)) = record { name = refl; faults = omega arith }
same_file None = tt

same_files : (files : List (Option FileSeen)) → AreSameFiles files files
same_files files = record {
  many = refl;
  each = λ place a b e f. (let s : Some a ≡ Some b = sym e ∙ f in let same : a ≡ b = cc in subst (IsSameFile a) same (same_file a));
}

-- ---- the file of a sink

sink_asked : (form : PartForm) (name : List ℕ) (held : Option WavHead) (frames there : ℕ) (known : Option (List ℕ)) → written_by form ≡ Some name → file_of (kind_of form) held frames there known ≡ Some (OfferedTo frames known)
sink_asked (forms.Sink f) name held frames there known e = refl
sink_asked (forms.Source f) name held frames there known e = absurd cc
sink_asked (forms.Late f) name held frames there known e = absurd cc
sink_asked forms.Decoder name held frames there known e = absurd cc
sink_asked forms.Alaw name held frames there known e = absurd cc
sink_asked forms.Mulaw name held frames there known e = absurd cc
sink_asked (forms.Gain gain) name held frames there known e = absurd cc
sink_asked (forms.Mixer weights) name held frames there known e = absurd cc
sink_asked (forms.Splitter outputs) name held frames there known e = absurd cc

sink_offered : (file : Option FileSeen) (frames : ℕ) (known : Option (List ℕ)) → option_map offer file ≡ Some (OfferedTo frames known) → (sink : SinkSeen) × (n : ℕ) × (file ≡ Some (Writes sink n))
sink_offered (Some (Writes sink n)) frames known e = (sink, n, refl)
sink_offered (Some (Reads source format n)) frames known e =
    let s : OfferedFrom format n (source.size - source.offset) (option_map (drop source.offset) source.told) ≡ OfferedTo frames known = cc in absurd cc
sink_offered None frames known e = absurd cc

-- it is at the place of each sink
pub sink_there : (plan : PlanValue) (given : PlayFiles) (entries : List (Option FileSeen)) (place : ℕ) (name : List ℕ) → length entries ≡ length plan.parts → AreFilesOf plan given entries → IsWriter plan.parts place name
    → (sink : SinkSeen) × (n : ℕ) × (slice_get entries place ≡ Some (Some (Writes sink n)))
sink_there plan given entries place name many A (part, e, w) =
    let b = slice_get_within plan.parts place part e in
    let f = get_there entries place (omega arith) in
    let frames = slice_index_or plan.frames place 0 in
    let asked : file_at plan given place ≡ Some (OfferedTo frames (given.known place)) =
    ap (λ (o : Option PartLine). file_of (kind_in o) (slice_get given.heads (source_number plan.parts place)) frames (given.there place) (given.known place)) e
    ∙ sink_asked part.form name (slice_get given.heads (source_number plan.parts place)) frames (given.there place) (given.known place) w in
    let s = sink_offered f.0 frames (given.known place) (A place f.0 f.1 ∙ asked) in
    (s.0, s.1, f.1 ∙ ap Some s.2)

pub nothing_taken : (told : Option (List ℕ)) → told ≡ append_known told []
nothing_taken None = refl
nothing_taken (Some bytes) = ap Some (sym (append-nil bytes))

-- memory was wanted before the run
pub not_begun : {workers : ℕ} {Tells : List PartLine → List ℕ → Type 0} (plan : PlanValue) (entries : List (Option FileSeen)) → CanPlay plan entries → HasRun workers Tells plan entries entries (Err Faults.OutOfMemory)
not_begun plan entries C = record {
  same = same_files entries;
  told = tt;
  whole = tt;
  gates = tt;
  failed = λ given R A samples S place name w.
      (let s = sink_there plan given entries place name C.many A w in
      ([], record { first = s.0; last = s.0; planned = s.1; count = s.1; was = s.2; is = s.2; took = nothing_taken (s.0).told }, (0, omega arith, refl)));
  cause = tt;
  left = λ given R A. inl (refl, refl);
}
