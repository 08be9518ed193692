use Rattle.std.proofs.Common.{◌≡◌, ℕ, List, Option, Some, None, IfSome, option_map, option_and_then, refl, sym, ◌∙◌, ap, subst}
use Rattle.std.specs.Option.{option_copied}
use Rattle.audio_parts.specs.AnyParts.{sink_of}
use Rattle.audio_parts.specs.Shown.{shown_by}
use Rattle.audio_parts.specs.declared.any_part.AnyPart.{AnyPart}
use Rattle.audio_parts.specs.declared.any_part.AnyPart.TheVariants as parts
use Rattle.audio_parts.specs.declared.part_file.PartFile.TheVariants as files
use Rattle.audio_parts.specs.declared.sink_file.SinkFile.{SinkFile}
use Rattle.audio_parts.specs.declared.source_file.SourceFile.{SourceFile}
use Rattle.graph_acts.specs.Sinks.{sink_in, written_to}
use Rattle.graph_acts.proofs.lent.DoneWork.sink.Goals as goal

read_none : (S K : Type 0) (o : Option (SourceFile S)) → None ≡ option_and_then (written_to {S = S} {K = K}) (option_map (λ it. files.From it.source it.format it.attached) o)
read_none S K None = refl
read_none S K (Some it) = refl

written_some : (S : Type 0) {K : Type 0} (o : Option (SinkFile K)) → option_map (λ it. it.sink) o ≡ option_and_then (written_to {S = S} {K = K}) (option_map (λ it. files.To it.sink it.planned) o)
written_some S None = refl
written_some S (Some it) = refl

kept_as : {X A : Type 0} (o other : Option X) (a b : A) (told : X → A) → o ≡ other → a ≡ b → IfSome o (λ x. a ≡ told x) → IfSome other (λ x. b ≡ told x)
kept_as o other a b told e f h = subst (λ y. IfSome other (λ x. y ≡ told x)) f (subst (λ z. IfSome z (λ x. a ≡ told x)) e h)

module _ {S K : Type 0} {s : _} {k : _} (told : S → Option (List ℕ)) (kept : K → Option (List ℕ)) (name : K → List ℕ) where
  shown_sink : (part : AnyPart S K s k) → sink_of part ≡ sink_in (shown_by told kept name part)
  shown_sink (parts.Source it) = read_none S K it.file
  shown_sink (parts.Sink it) = written_some S it.file
  shown_sink (parts.Decoder it) = refl
  shown_sink (parts.Encoder it) = refl
  shown_sink (parts.Gain it) = refl
  shown_sink (parts.Mixer it) = refl
  shown_sink (parts.Splitter it) = refl

pub returns : goal.returns
returns g c =
    let f = shown_by g.S.Source.told g.K.Sink.told g.K.Sink.name in
    let told = g.K.Sink.told in
    let p = c.part.result.now in
    let same = shown_sink g.S.Source.told g.K.Sink.told g.K.Sink.name p in
    let copied : option_copied c.sink.result ≡ sink_in (f p) = c.sink.ensures.sink ∙ same in
    let kept : IfSome (sink_in (f p)) (λ snk. (f p).kept ≡ told snk) = kept_as _ _ _ _ told same (c.law_of_parts.ensures.kept p) c.sink.ensures.kept in
    record {
      sink = subst (λ d. option_copied c.sink.result ≡ sink_in d.part) c.self.view_is (subst (λ x. option_copied c.sink.result ≡ sink_in (f x)) c.part.ensures copied);
      kept = subst (λ d. IfSome (sink_in d.part) (λ snk. (d.part).kept ≡ told snk)) c.self.view_is (subst (λ x. IfSome (sink_in (f x)) (λ snk. (f x).kept ≡ told snk)) c.part.ensures kept);
    }
