-- The files of a play before and after it, as they are seen.
use Rattle.std.proofs.Common.{◌≡◌, ℕ, Bool, List, slice_get, Option, Some, None, option_map, refl, sym, ◌∙◌, ap, subst, arith}
use Rattle.std.proofs.lemmas.List.{length-map}
use Rattle.std.proofs.lemmas.Option.{slice_get-map, slice_get_within}
use Rattle.outside_io.specs.declared.sink.Sink.{Ghosts as SinkGhosts}
use Rattle.outside_io.specs.declared.source.Source.{Ghosts as SourceGhosts}
use Rattle.audio_parts.specs.Objects.{Held, ObjectStays}
use Rattle.audio_parts.specs.declared.part_file.PartFile.{PartFile}
use Rattle.audio_parts.specs.declared.part_file.PartFile.TheVariants as files
use Rattle.il_graph.specs.Shown.{offered}
use Rattle.play_build_laws.proofs.Places.{get_there}
use Rattle.play_forms.specs.Plans.{PlanValue}
use Rattle.play_plan_laws.specs.Assemblies.{PlayFiles}
use Rattle.play_files.specs.Seen.{FileSeen, Reads, Writes, file_seen, files_seen, offer}
use Rattle.play_graph.specs.Making.{AreOffered, CanMake}
use Rattle.play_course.specs.Players.{AreFilesOf, CanPlay}
use Rattle.play_course.specs.Running.{AreSameFiles, IsSameFile}
use Rattle.play_run.specs.Playing.{unfailed}

module _ {S K : Type 0} (reads : SourceGhosts S) (writes : SinkGhosts K) where
  abbrev pub seen_by : PartFile S K → FileSeen
  seen_by = file_seen reads writes

  abbrev pub seen_all : List (Option (PartFile S K)) → List (Option FileSeen)
  seen_all entries = files_seen (file_seen reads writes) entries

  abbrev pub StaysBy : Held S K → Held S K → Type 0
  StaysBy = ObjectStays reads.name reads.size reads.told reads.ends reads.offset reads.faults writes.name writes.faults

  -- ---- what is offered

  offers : (file : Option (PartFile S K)) → option_map offer (option_map seen_by file) ≡ option_map (offered reads.offset reads.size reads.told writes.told) file
  offers None = refl
  offers (Some (files.From src format frames)) = refl
  offers (Some (files.To snk frames)) = refl

  pub seen_at : (entries : List (Option (PartFile S K))) (place : ℕ) (file : Option (PartFile S K)) → slice_get entries place ≡ Some file → slice_get (seen_all entries) place ≡ Some (option_map seen_by file)
  seen_at entries place file e = slice_get-map (option_map seen_by) entries place ∙ ap (option_map (option_map seen_by)) e

  pub are_offered : (plan : PlanValue) (given : PlayFiles) (entries : List (Option (PartFile S K))) → AreFilesOf plan given (seen_all entries) → AreOffered plan given (offered reads.offset reads.size reads.told writes.told) entries
  are_offered plan given entries O place file e = sym (offers file) ∙ O place (option_map seen_by file) (seen_at entries place file e)

  pub can_make : (plan : PlanValue) (entries : List (Option (PartFile S K))) → CanPlay plan (seen_all entries) → CanMake plan (offered reads.offset reads.size reads.told writes.told) entries
  can_make plan entries C = record { files = C.files; ready = C.ready; many = sym (length-map entries (option_map seen_by)) ∙ C.many; offered = are_offered plan C.files entries C.are }

  -- ---- what stays

  -- what is seen at a place is of a file there
  pub unseen : (entries : List (Option (PartFile S K))) (place : ℕ) (a : Option FileSeen) → slice_get (seen_all entries) place ≡ Some a → (file : Option (PartFile S K)) × (slice_get entries place ≡ Some file) × (option_map seen_by file ≡ a)
  unseen entries place a e =
      let b = slice_get_within (seen_all entries) place a e in
      let n = length-map entries (option_map seen_by) in
      let p = get_there entries place (omega (arith, b, n)) in
      let s : Some (option_map seen_by p.0) ≡ Some a = sym (seen_at entries place p.0 p.1) ∙ e in
      (p.0, p.1, cc)

  pub same_file : (a b : Option (PartFile S K)) (failed : Bool) → ObjectStays reads.name reads.size reads.told reads.ends reads.offset reads.faults writes.name writes.faults (unfailed a) (record { failed = failed; file = b }) → IsSameFile (option_map seen_by a) (option_map seen_by b)
  same_file None None failed h = tt
  same_file None (Some b) failed h = absurd h.1
  same_file (Some a) None failed h = absurd h.1
  same_file (Some (files.From src format frames)) (Some (files.From src' format' frames')) failed h = let s = h.1.2 in record { name = s.name; size = s.size; told = s.told; ends = s.ends; faults = s.faults }
  same_file (Some (files.From src format frames)) (Some (files.To snk frames')) failed h = absurd h.1
  same_file (Some (files.To snk frames)) (Some (files.From src format frames')) failed h = absurd h.1
  same_file (Some (files.To snk frames)) (Some (files.To snk' frames')) failed h = let s = h.1.1 in record { name = s.name; faults = s.faults }

  itself : (a : Option FileSeen) → IsSameFile a a
  itself None = tt
  itself (Some (Reads source format frames)) = record { name = refl; size = refl; told = refl; ends = refl; faults = omega arith }
  itself (Some (Writes sink frames)) = record { name = refl; faults = omega arith }

  pub files_same : (entries : List (Option (PartFile S K))) → AreSameFiles (seen_all entries) (seen_all entries)
  files_same entries = record { many = refl; each = λ place a b e f. let s : Some a ≡ Some b = sym e ∙ f in let q : a ≡ b = cc in subst (IsSameFile a) q (itself a) }
