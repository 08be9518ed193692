-- What the file of a sink tells is what was written to it.
use Rattle.std.proofs.Common.{◌≡◌, ℕ, List, map, Option, Some, None, option_map, option_and_then, slice_get, refl, sym, ◌∙◌, ap, subst}
use Rattle.std.proofs.lemmas.Option.{slice_get-map}
use Rattle.std.specs.Io.KnownBytes.{append_known}
use Rattle.part_api.specs.declared.attached.Attached.TheVariants.{To}
use Rattle.il_machine.specs.declared.answer.Progress.{Progress}
use Rattle.il_machine.specs.World.{Component, Stream, World, number_of, place_numbered, stream_of}
use Rattle.il_machine.specs.Whole.{PartSeen, Stands}
use Rattle.audio_parts.specs.AnyParts.{attached_of, file_of as part_file}
use Rattle.audio_parts.specs.Shown.{ShownPart, kept_in, shown_by}
use Rattle.audio_parts.specs.declared.any_part.AnyPart.{AnyPart}
use Rattle.audio_parts.specs.declared.any_part.AnyPart.TheVariants as parts
use Rattle.audio_parts.specs.declared.part_file.PartFile.{PartFile}
use Rattle.audio_parts.specs.declared.part_file.PartFile.TheVariants as files
use Rattle.audio_parts.specs.declared.sink_file.SinkFile.{SinkFile}
use Rattle.audio_parts.specs.declared.source_file.SourceFile.{SourceFile}
use Rattle.graph_core.specs.Entries.{components_of}
use Rattle.il_graph.specs.Shown.{IsWhole, Shown, TellWritten, file_at, kept, seen_of}
use Rattle.il_graph.proofs.Filing.{number_placed}

never_from : {A B : Type 0} (o : Option (SourceFile A)) (snk : B) (frames : ℕ) → option_map (λ it. files.From it.source it.format it.attached) o ≡ Some (files.To snk frames) → ⊥
never_from None snk frames e = cc
never_from (Some it) snk frames e = cc

its_sink : {A B : Type 0} (keeps : B → Option (List ℕ)) (o : Option (SinkFile B)) (snk : B) (frames : ℕ) (file : Option (PartFile A B)) → file ≡ option_map (λ it. files.To it.sink it.planned) o → file ≡ Some (files.To snk frames) → kept_in keeps o ≡ keeps snk
its_sink keeps None snk frames file e f = absurd cc
its_sink keeps (Some it) snk frames file e f = let q : it.sink ≡ snk = cc in ap keeps q

module _ {A B : Type 0} {s : _} {k : _} where
  -- of a part with such a file what the file tells is shown
  pub shown_kept : (told : A → Option (List ℕ)) (keeps : B → Option (List ℕ)) (name : B → List ℕ) (part : AnyPart A B s k) (snk : B) (frames : ℕ) → part_file part ≡ Some (files.To snk frames) → (shown_by told keeps name part).kept ≡ keeps snk
  shown_kept told keeps name (parts.Source it) snk frames e = absurd (never_from it.file snk frames e)
  shown_kept told keeps name (parts.Sink it) snk frames e = its_sink {A = A} {B = B} keeps it.file snk frames (part_file {s = s} {k = k} (parts.Sink it)) refl e
  shown_kept told keeps name (parts.Decoder it) snk frames e = absurd cc
  shown_kept told keeps name (parts.Encoder it) snk frames e = absurd cc
  shown_kept told keeps name (parts.Gain it) snk frames e = absurd cc
  shown_kept told keeps name (parts.Mixer it) snk frames e = absurd cc
  shown_kept told keeps name (parts.Splitter it) snk frames e = absurd cc

module _ {S K C P : Type 0} (progress : C → Progress) (f : P → ShownPart S K) (keeps : K → Option (List ℕ)) (T : (part : P) (snk : K) (frames : ℕ) → (f part).file ≡ Some (files.To snk frames) → (f part).kept ≡ keeps snk) where
  of_part : (o : Option (Option P)) (p : ShownPart S K) → option_map (option_map f) o ≡ Some (Some p) → (snk : K) (frames : ℕ) → p.file ≡ Some (files.To snk frames) → p.kept ≡ keeps snk
  of_part None p e snk frames file = absurd cc
  of_part (Some None) p e snk frames file = absurd cc
  of_part (Some (Some part)) p e snk frames file =
      let same : f part ≡ p = cc in
      subst (λ (x : ShownPart S K). x.kept ≡ keeps snk) same (T part snk frames (ap (λ (x : ShownPart S K). x.file) same ∙ file))

  module _ (g : Shown S K C) (items : List (Option P)) (e : g.parts ≡ map (option_map f) items) (I : IsWhole progress g) (w : World) (s : Stands (kept progress g) w) where
    same : w.components ≡ components_of g.core.entries
    same = ap (λ y. y.components) s.looks

    at_its_place : (number frames i : ℕ) (c : Component) (st : Stream) (snk : K) → place_numbered number w.components ≡ Some i → slice_get w.components i ≡ Some c → c.work ≡ None → stream_of number w ≡ Some st
        → file_at g i ≡ Some (files.To snk frames) → keeps snk ≡ append_known st.known st.written
    at_its_place number frames i c st snk placed at none stream file =
        let n : number_of c ≡ number = number_placed number w.components i c placed at in
        let D = s.parts i c st at none (ap (λ (m : ℕ). stream_of m w) n ∙ stream) in
        let there = I.parts.there i c (ap (λ (cs : List Component). slice_get cs i) (sym same) ∙ at) none in
        let p = there.0 in
        let own : p.file ≡ Some (files.To snk frames) = ap (λ (o : Option (Option (ShownPart S K))). option_and_then (option_and_then (λ (q : ShownPart S K). q.file)) o) (sym there.1) ∙ file in
        let shown : Some (Some (seen_of p)) ≡ Some (Some D.0) = sym (slice_get-map (option_map seen_of) g.parts i ∙ ap (option_map (option_map seen_of)) there.1) ∙ D.1 in
        let seen : seen_of p ≡ D.0 = cc in
        let attached : c.file ≡ Some (To frames) = sym (there.2).file ∙ ap (option_map attached_of) own in
        let told : p.kept ≡ keeps snk = of_part (slice_get items i) p (sym (slice_get-map (option_map f) items i) ∙ (ap (λ (xs : List (Option (ShownPart S K))). slice_get xs i) (sym e) ∙ there.1)) snk frames own in
        sym told ∙ (ap (λ (x : PartSeen). x.kept) seen ∙ (D.2).kept frames attached)

    by_place : (number frames : ℕ) (o : Option ℕ) (c : Component) (st : Stream) (snk : K) → place_numbered number w.components ≡ o → option_and_then (slice_get w.components) o ≡ Some c → c.work ≡ None → stream_of number w ≡ Some st
        → option_and_then (file_at g) o ≡ Some (files.To snk frames) → keeps snk ≡ append_known st.known st.written
    by_place number frames None c st snk placed at none stream file = absurd cc
    by_place number frames (Some i) c st snk placed at none stream file = at_its_place number frames i c st snk placed at none stream file

    pub tell_written : TellWritten keeps g w
    tell_written number frames c st snk at none stream file =
        by_place number frames (place_numbered number w.components) c st snk refl at none stream (ap (λ (cs : List Component). option_and_then (file_at g) (place_numbered number cs)) same ∙ file)
