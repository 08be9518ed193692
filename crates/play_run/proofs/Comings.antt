-- The files of a play when it is over, or stopped: each is at its place again, a sink took what was written to it, and a file shows what failed.
use Rattle.std.proofs.Common.{◌≡◌, ◌<◌, ℕ, Bool, List, length, slice_get, Option, Some, None, option_map, sym, ◌∙◌, ap, subst, arith}
use Rattle.std.proofs.lemmas.List.{length-map}
use Rattle.std.proofs.lemmas.Option.{slice_get_within}
use Rattle.std.specs.Io.KnownBytes.{append_known}
use Rattle.omx_types.specs.declared.fault.PartFault.{PartFault}
use Rattle.omx_types.specs.declared.fault.PartFault.TheVariants as parts
use Rattle.outside_io.specs.declared.sink.Sink.{Ghosts as SinkGhosts}
use Rattle.outside_io.specs.declared.source.Source.{Ghosts as SourceGhosts}
use Rattle.audio_parts.specs.Objects.{ObjectShows}
use Rattle.audio_parts.specs.declared.part_file.PartFile.{PartFile}
use Rattle.audio_parts.specs.declared.part_file.PartFile.TheVariants as files
use Rattle.il_machine.specs.declared.answer.Progress.{Progress}
use Rattle.il_machine.specs.World.{Component, Stream, World, component_numbered, stream_of}
use Rattle.il_graph.specs.Shown.{Shown, TellWritten, file_of, offered}
use Rattle.play_build_laws.proofs.Places.{get_there}
use Rattle.play_forms.specs.Plans.{PlanValue}
use Rattle.play_plan_laws.specs.Assemblies.{PlayFiles}
use Rattle.play_result_laws.specs.Files.{IsWriter}
use Rattle.play_result_laws.specs.Worlds.{IsOpening}
use Rattle.play_files.specs.Seen.{FileSeen, sink_seen, source_seen}
use Rattle.play_graph.specs.Ending.{AreFilesOf}
use Rattle.play_graph.specs.Making.{AreOffered}
use Rattle.play_course.specs.Failing.{ShowsAt, fault_at}
use Rattle.play_course.specs.Running.{AreSameFiles, HasTaken, IsRunCause, IsSameFile}
use Rattle.play_result_laws.proofs.Opened.{opening_known}
use Rattle.play_run.specs.Playing.{ToldAlike, unfailed}
use Rattle.play_run.proofs.ThreadFiles.{StaysBy, same_file, seen_all, seen_at, seen_by, unseen}
use Rattle.play_run.proofs.Sinks.{sink_entry, sink_offer, sink_stays}

module _ {S K : Type 0} (reads : SourceGhosts S) (writes : SinkGhosts K) where
  abbrev pub seen : List (Option (PartFile S K)) → List (Option FileSeen)
  seen = seen_all reads writes

  abbrev pub seen_file : PartFile S K → FileSeen
  seen_file = seen_by reads writes

  module _ (places : ℕ) (first x : Shown S K Progress) (entries now : List (Option (PartFile S K))) (were : AreFilesOf first places entries) (are : AreFilesOf x places now) where
    was_of : length entries ≡ places → (place : ℕ) (file : Option (PartFile S K)) → slice_get entries place ≡ Some file → file ≡ file_of place first
    was_of many place file e =
        let b = slice_get_within entries place file e in
        let z : Some file ≡ Some (file_of place first) = sym e ∙ were place (omega (arith, b, many)) in
        cc

    is_of : length now ≡ places → (place : ℕ) (file : Option (PartFile S K)) → slice_get now place ≡ Some file → file ≡ file_of place x
    is_of many_now place file e =
        let b = slice_get_within now place file e in
        let z : Some file ≡ Some (file_of place x) = sym e ∙ are place (omega (arith, b, many_now)) in
        cc

    module _ (many : length entries ≡ places) (many_now : length now ≡ places) (stayed : (number : ℕ) → (failed : Bool) × StaysBy reads writes (unfailed (file_of number first)) (record { failed = failed; file = file_of number x })) where
      pub are_same : AreSameFiles (seen entries) (seen now)
      are_same = record {
        many = length-map now (option_map seen_file) ∙ (many_now ∙ sym (length-map entries (option_map seen_file) ∙ many));
        each = λ place a b e f.
            let u = unseen reads writes entries place a e in
            let v = unseen reads writes now place b f in
            let s = stayed place in
            let p = subst (λ (y : Option (PartFile S K)). StaysBy reads writes (unfailed y) (record { failed = s.0; file = file_of place x })) (sym (was_of many place u.0 u.1)) s.1 in
            let q = subst (λ (y : Option (PartFile S K)). StaysBy reads writes (unfailed u.0) (record { failed = s.0; file = y })) (sym (is_of many_now place v.0 v.1)) p in
            let r = same_file reads writes u.0 v.0 s.0 q in
            subst (λ (y : Option FileSeen). IsSameFile a y) v.2 (subst (λ (y : Option FileSeen). IsSameFile y (option_map seen_file v.0)) u.2 r);
      }

      -- what was written to the sink at the place, it took
      pub has_taken : (plan : PlanValue) (given : PlayFiles) → places ≡ length plan.parts → AreOffered plan given (offered reads.offset reads.size reads.told writes.told) entries → (opening w : World) → IsOpening plan given opening → ToldAlike opening w → TellWritten writes.told x w
          → (place : ℕ) (sink : List ℕ) → IsWriter plan.parts place sink → (c : Component) → component_numbered place w ≡ Some c → c.work ≡ None → (s : Stream) → stream_of place w ≡ Some s
          → HasTaken (seen entries) (seen now) place s.written
      has_taken plan given size O opening w (handles, B) alike written place sink I c named work s found =
          let l = slice_get_within plan.parts place I.0 I.1 in
          let f = get_there entries place (omega (arith, l, many, size)) in
          let o = sink_offer plan given place sink I in
          let k = sink_entry reads writes f.0 o.0 (given.known place) (O place f.0 f.1 ∙ o.1) in
          let st = stayed place in
          let here : file_of place first ≡ Some (files.To k.0 k.1) = sym (was_of many place f.0 f.1) ∙ k.2 in
          let t = sink_stays reads writes k.0 k.1 (file_of place x) st.0
          (subst (λ (y : Option (PartFile S K)). StaysBy reads writes (unfailed y) (record { failed = st.0; file = file_of place x })) here st.1) in
          let al = alike place s found in
          let came : s.known ≡ writes.told k.0 = al.2 ∙ (opening_known plan given handles opening B place sink I al.0 al.1 ∙ sym k.3) in
          record {
            first = sink_seen writes k.0;
            last = sink_seen writes t.0;
            planned = k.1;
            count = t.1;
            was = seen_at reads writes entries place f.0 f.1 ∙ ap (λ (y : Option (PartFile S K)). Some (option_map seen_file y)) k.2;
            is = seen_at reads writes now place (file_of place x) (are place (omega (arith, l, size))) ∙ ap (λ (y : Option (PartFile S K)). Some (option_map seen_file y)) t.2;
            took = written place t.1 c s t.0 named work found t.2 ∙ ap (λ (y : Option (List ℕ)). append_known y s.written) came;
          }

    shows_of : (n : ℕ) (fault : PartFault) (f g : Option (PartFile S K)) (failed : Bool) → slice_get (seen entries) n ≡ Some (option_map seen_file f) → slice_get (seen now) n ≡ Some (option_map seen_file g)
        → ObjectShows reads.size reads.ends reads.offset reads.faults writes.faults fault (unfailed f) (record { failed = failed; file = g }) → ShowsAt (seen entries) (seen now) n fault
    shows_of n fault None g failed e h s = absurd s.1
    shows_of n fault (Some f) None failed e h s = absurd s.1
    shows_of n parts.Read (Some (files.From src format frames)) (Some (files.From src' format' frames')) failed e h s =
        (source_seen reads src, source_seen reads src', (format, frames, e), (format', frames', h), s.1)
    shows_of n parts.Write (Some (files.From src format frames)) (Some (files.From src' format' frames')) failed e h s = absurd s.1
    shows_of n (parts.Short at whole) (Some (files.From src format frames)) (Some (files.From src' format' frames')) failed e h s =
        (source_seen reads src, (format, frames, e), s.1)
    shows_of n fault (Some (files.From src format frames)) (Some (files.To snk count)) failed e h s = absurd s.1
    shows_of n fault (Some (files.To snk count)) (Some (files.From src format frames)) failed e h s = absurd s.1
    shows_of n parts.Read (Some (files.To snk frames)) (Some (files.To snk' frames')) failed e h s = absurd s.1
    shows_of n parts.Write (Some (files.To snk frames)) (Some (files.To snk' frames')) failed e h s =
        (sink_seen writes snk, sink_seen writes snk', (frames, e), (frames', h), s.1)
    shows_of n (parts.Short at whole) (Some (files.To snk frames)) (Some (files.To snk' frames')) failed e h s = absurd s.1

    -- the file of the component that failed shows it
    pub does_show : (place : ℕ) (fault : PartFault) → place < places
        → (failed : Bool) × ObjectShows reads.size reads.ends reads.offset reads.faults writes.faults fault (unfailed (file_of place first)) (record { failed = failed; file = file_of place x }) → ShowsAt (seen entries) (seen now) place fault
    does_show place fault b (failed, shown) =
        shows_of place fault (file_of place first) (file_of place x) failed
        (seen_at reads writes entries place (file_of place first) (were place b))
        (seen_at reads writes now place (file_of place x) (are place b))
        shown

    cause_of : (n : ℕ) (fault : PartFault) → ShowsAt (seen entries) (seen now) n fault → IsRunCause (seen entries) (seen now) (fault_at n fault)
    cause_of n parts.Read (source, last, was, is, rose) = (n, source, last, was, is, rose)
    cause_of n parts.Write (sink, last, was, is, rose) = (n, sink, last, was, is, rose)
    cause_of n (parts.Short at size) (source, was, gave) = (source, was, gave)

    -- why it failed
    pub is_cause : (place : ℕ) (fault : PartFault) → place < places
        → (failed : Bool) × ObjectShows reads.size reads.ends reads.offset reads.faults writes.faults fault (unfailed (file_of place first)) (record { failed = failed; file = file_of place x }) → IsRunCause (seen entries) (seen now) (fault_at place fault)
    is_cause place fault b shows = cause_of place fault (does_show place fault b shows)
