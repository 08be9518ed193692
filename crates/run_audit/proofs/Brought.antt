-- A line by which a work comes back.
use Rattle.std.proofs.Common.{◌≡◌, ◌≢◌, inl, inr, ℕ, true, false, IsTrue, IsFalse, List, [], Option, Some, None, MatchOption, IsSomeAnd, IfSome, is_some, option_and_then, length, take, nat_eq, slice_get, slice_set, refl, sym, ◌∙◌, ap, subst, eq-eqb, length-set, Bool}
use Rattle.std.proofs.lemmas.Bool.{cases_eq}
use Rattle.std.specs.Io.KnownBytes.{append_known}
use Rattle.omx_types.specs.declared.handle.Handle.{Handle}
use Rattle.outside_io.specs.declared.source.Source.{Ghosts as SourceGhosts}
use Rattle.note_queues.specs.declared.client.Client.{Ghosts as ClientGhosts}
use Rattle.il_machine.specs.Acts as acts
use Rattle.il_machine.specs.World.{Component, Stream, World, component_numbered, stream_of}
use Rattle.machine_laws.proofs.Keys.{is_there, there_is}
use Rattle.history_laws.specs.Works.{has_work_out}
use Rattle.history_laws.proofs.Freed.{none_left}
use Rattle.history_laws.proofs.Remaining.{number_stays}
use Rattle.act_text.specs.declared.act.TextAct.TheVariants as lines
use Rattle.act_text.specs.declared.reply.TextReply.{TextReply}
use Rattle.act_text.specs.declared.reply.TextReply.TheVariants as texts
use Rattle.script_lang.specs.declared.play_line.PartLine.{PartLine}
use Rattle.play_forms.specs.Plans.{PlanValue}
use Rattle.play_log.specs.Lines.{LogLine}
use Rattle.play_log.specs.Scenes.{HaveOwnNames, IsPlayer}
use Rattle.audio_parts.specs.Objects.{SourceStays}
use Rattle.audio_parts.specs.Shown.{ShownPart}
use Rattle.audio_parts.specs.declared.part_file.PartFile.{PartFile}
use Rattle.audio_parts.specs.declared.part_file.PartFile.TheVariants as files
use Rattle.graph_core.specs.Clients.{IsOut}
use Rattle.il_flow.specs.Works.{WorkOf}
use Rattle.il_graph.specs.Shown.{Shown, TellWritten}
use Rattle.il_graph.specs.Shown as graphs
use Rattle.compared_files.specs.Comparing.{ComparingValue, known_by, told_by}
use Rattle.graph_acts.specs.declared.act.Act.TheVariants as asks
use Rattle.graph_acts.specs.declared.act.Reply.TheVariants as replies
use Rattle.graph_acts.specs.Holding.{IsGone}
use Rattle.graph_acts.specs.Objects.{files_in, with_at}
use Rattle.graph_acts.specs.Plain.{Sight}
use Rattle.graph_acts.specs.Sinks.{sink_in, written_to}
use Rattle.graph_acts.specs.Working.{IsWorkIn, MovesWorks, out_of}
use Rattle.graph_acts.proofs.Lasting.{some_there}
use Rattle.graph_acts.proofs.Comeback.{comes_back, nothing_unsaid}
use Rattle.audit_forms.specs.Audited.{Answers, Case, IsWrittenIn, Moment}
use Rattle.run_audit.specs.Replaying.{AreFronts, IsComparedWith, IsStanding}
use Rattle.run_audit.specs.Returning.{HasOther, IsReturned}
use Rattle.run_audit.specs.Seeing.{replay_sight}
use Rattle.run_audit.specs.declared.returning.Back.{Back}
use Rattle.run_audit.proofs.Compared.{compared_back, compared_still}
use Rattle.run_audit.proofs.Held.{work_goes}
use Rattle.run_audit.proofs.Returned as returned
use Rattle.run_audit.proofs.Sinks.{is_front, no_front}
use Rattle.run_audit.proofs.Standing.{IsGoing, apart, moves_works, same_objects, standing}
use Rattle.run_audit.proofs.Streams.{GoesOn, streams_go}

-- what a compared sink is known by, and tells
pub record KnowsCompared {S C : Type 0} (see : Sight S (ComparingValue S) C) : Type 0 where
  pub named : (snk : ComparingValue S) → see.writes.name snk ≡ known_by (see.reads.name snk.src) (see.reads.told snk.src) (see.reads.ends snk.src)
  pub tells : (snk : ComparingValue S) → see.writes.told snk ≡ told_by (see.reads.told snk.src) snk

pub knows_compared : {S C : Type 0} (client : ClientGhosts C) (reads : SourceGhosts S) → KnowsCompared (replay_sight client reads)
knows_compared client reads = record { named = λ snk. refl; tells = λ snk. refl }

true_unless : (b : Bool) → (IsFalse b → ⊥) → IsTrue b
true_unless true n = refl
true_unless false n = absurd (n refl)

not_none : {X : Type 0} (o : Option X) → o ≢ None → (y : X) × (o ≡ Some y)
not_none None n = absurd (n refl)
not_none (Some y) n = (y, refl)

none_out : (o : Option Component) (c : Component) → o ≡ Some c → is_some (option_and_then (λ (y : Component). y.work) o) ≡ false → c.work ≡ None
none_out o c e f = not_some c.work (ap (λ (z : Option Component). is_some (option_and_then (λ (y : Component). y.work) z)) (sym e) ∙ f)
  where
    not_some : {X : Type 0} (z : Option X) → is_some z ≡ false → z ≡ None
    not_some None h = refl
    not_some (Some y) h = absurd cc

module _ {S : Type 0} where
  to_of : (file : Option (PartFile S (ComparingValue S))) (snk : ComparingValue S) → option_and_then written_to file ≡ Some snk → (frames : ℕ) × (file ≡ Some (files.To snk frames))
  to_of None snk e = absurd cc
  to_of (Some (files.From src format frames)) snk e = absurd cc
  to_of (Some (files.To other frames)) snk e = let same : other ≡ snk = cc in (frames, ap (λ (k : ComparingValue S). Some (files.To k frames)) same)

  some_written : (o : Option (ComparingValue S)) (told : S → Option (List ℕ)) (text : List ℕ) → MatchOption o (Some text ≡ None) (λ snk. (Some text ≢ None) × (told snk.src ≡ Some text)) → (snk : ComparingValue S) × (o ≡ Some snk) × (told snk.src ≡ Some text)
  some_written None told text h = absurd cc
  some_written (Some snk) told text h = (snk, refl, h.1)

module _ {S C : Type 0} where
  module _ (see : Sight S (ComparingValue S) C) (Q : KnowsCompared see) (old new : Shown S (ComparingValue S) C) (plan : PlanValue) (handles : List Handle) (works : List (Option (WorkOf (ShownPart S (ComparingValue S))))) (clients : List (Option C))
      (place : ℕ) (work : WorkOf (ShownPart S (ComparingValue S))) (held : slice_get works place ≡ Some (Some work)) (reply : TextReply) (back : Back) (B : IsReturned see see.reads.told old new work reply back)
      (out : (h : Handle) → IsGone new h → IsOut h (graphs.look_of new)) (tells : Bool) (x : Case) (w : World) (I : IsStanding see tells old plan handles works clients x w) where
    abbrev pub H : IsWorkIn w (out_of work)
    H = ((I.works_are).out place work held).1

    number : (B.done).component.generation ≡ place
    number = ap (λ (h : Handle). h.generation) (B.run).component ∙ I.numbers place work.component ((I.works_are).out place work held).0

    abbrev pub end : World
    end = (returned.stepped see old new w (out_of work) B.done I.sound I.stands H B.run B.moved).0

    abbrev pub going : IsGoing see old new w end (asks.Finish B.done) replies.Finish
    going =
        let y = returned.stepped see old new w (out_of work) B.done I.sound I.stands H B.run B.moved in
        let z = comes_back w (out_of work) B.done H B.run in
        record {
          moved = B.moved;
          unsaid = record { took = z.0; terms = nothing_unsaid.terms };
          so = z.1.1;
          met = z.1.0;
          stands = y.1;
          step = y.2;
          brings = tt;
          asks_none = tt;
          out = out;
        }

    compared : IsTrue tells → IsComparedWith see.reads.told (x.sinks place) ((B.done).part).file
    compared t = compared_still see.reads.name see.reads.told see.reads.ends see.writes.name see.writes.faults (SourceStays see.reads.name see.reads.size see.reads.told see.reads.ends see.reads.offset see.reads.faults ((B.done).part).failed) Q.named (x.sinks place)
        (work.part).file ((B.done).part).file ((B.run).object).1 ((I.sinks t).outside place work held)

    pub files_then : (n : ℕ) → files_in new n ≡ with_at nat_eq (Some (place, ((B.done).part).file)) (files_in old) n
    files_then n = ((B.moved).objects).files n ∙ ap (λ (k : ℕ). with_at nat_eq (Some (k, ((B.done).part).file)) (files_in old) n) number

    pub returned_on : IsStanding see tells new plan handles (slice_set works place None) clients x end
    returned_on =
        let act = asks.Finish B.done in
        let same : work.component.generation ≡ (B.done).component.generation = sym (ap (λ (h : Handle). h.generation) (B.run).component) in
        standing see old new plan handles works clients tells x w end I act replies.Finish going (slice_set works place None) clients (length-set works place None) refl
        (work_goes handles (apart see old new plan handles works clients tells x w end I) works w end I.works_are place work held
        (subst (λ (n : ℕ). MovesWorks {S = S} {K = ComparingValue S} (Some n) None w end) (sym same) (moves_works see old new plan handles works clients tells x w end I act replies.Finish going)))
        (same_objects see old new plan handles works clients tells x w end I act replies.Finish going refl refl)
        (λ t. compared_back see.reads.told x.sinks works old new (I.sinks t) place ((B.done).part).file (compared t) files_then)

    -- ---- what was written then

    its_stream : (j : ℕ) (s : Stream) → stream_of j w ≡ Some s → (t : Stream) × (stream_of j end ≡ Some t) × GoesOn (returned.its see old new w (out_of work) B.done I.sound I.stands H B.run B.moved) j s t
    its_stream j s e = streams_go w (returned.its see old new w (out_of work) B.done I.sound I.stands H B.run B.moved) end j s going.met going.step e

    own_file : (n : ℕ) (file : Option (PartFile S (ComparingValue S))) (at : ℕ → Option (PartFile S (ComparingValue S))) → with_at nat_eq (Some (n, file)) at n ≡ file
    own_file n file at = let e = eq-eqb n n refl in rw e refl

    there_then : (c : Component) × (component_numbered place end ≡ Some c) × (c.work ≡ None)
    there_then =
        let named : work.component.generation ≡ place = I.numbers place work.component ((I.works_are).out place work held).0 in
        let d = number_stays w (acts.Finish (returned.its see old new w (out_of work) B.done I.sound I.stands H B.run B.moved)) acts.Finished end work.component.generation (H.out).component I.sound going.met going.step refl (H.out).there in
        let at : component_numbered place end ≡ Some d.0 = ap (λ (k : ℕ). component_numbered k end) (sym named) ∙ d.1 in
        let left : has_work_out place end ≡ false = ap (λ (k : ℕ). has_work_out k end) (sym number) ∙ none_left w (returned.its see old new w (out_of work) B.done I.sound I.stands H B.run B.moved) end I.sound going.met going.step in
        (d.0, at, none_out (component_numbered place end) d.0 at left)

    -- the sink tells what its stream has
    tells_then : TellWritten see.writes.told new end → (snk : ComparingValue S) → sink_in (B.done).part ≡ Some snk → (t : Stream) → stream_of place end ≡ Some t → t.known ≡ Some [] → told_by (see.reads.told snk.src) snk ≡ append_known (Some []) t.written
    tells_then T snk e t at known =
        let c = there_then in
        let f = to_of ((B.done).part).file snk e in
        let file : files_in new place ≡ Some (files.To snk f.0) = files_then place ∙ (own_file place ((B.done).part).file (files_in old) ∙ f.1) in
        sym (Q.tells snk) ∙ (T place f.0 c.0 t snk c.1 c.2 at file ∙ ap (λ (k : Option (List ℕ)). append_known k t.written) known)

    -- a sink's file is known where the media tells
    tells_so : (text : List ℕ) → x.sinks place ≡ Some text → IsTrue tells
    tells_so text e = true_unless tells (λ f. (let none : None ≡ Some text = sym (I.untold f place) ∙ e in cc))

    pub fronts_then : TellWritten see.writes.told new end → IfSome (sink_in (B.done).part) (λ snk. snk.other ≡ []) → AreFronts x.sinks w → AreFronts x.sinks end
    fronts_then T none F j text e =
        let s = there_is (stream_of j w) _ (F j text e) in
        let t = its_stream j s.0 s.1 in
        let known : (t.0).known ≡ Some [] = (t.2).known ∙ s.2.0 in
        is_there (stream_of j end) (λ y. (y.known ≡ Some []) × (take (length y.written) text ≡ y.written)) t.0 t.1 (
          known,
          elim (cases_eq j place) [
            | inl q ↦
                let at : stream_of place end ≡ Some t.0 = ap (λ (k : ℕ). stream_of k end) (sym q) ∙ t.1 in
                let its : x.sinks place ≡ Some text = ap x.sinks (sym q) ∙ e in
                let k = some_written (sink_in (B.done).part) see.reads.told text (subst (λ (o : Option (List ℕ)). IsComparedWith see.reads.told o ((B.done).part).file) its (compared (tells_so text its))) in
                let same : (k.0).other ≡ [] = subst (λ (o : Option (ComparingValue S)). IfSome o (λ snk. snk.other ≡ [])) k.1 none in
                is_front (see.reads.told (k.0).src) text k.2 k.0 (t.0).written (tells_then T k.0 k.1 t.0 at known) same
            | inr n ↦
                let same : t.0 ≡ s.0 = (t.2).other (λ q. n (q ∙ number)) in
                subst (λ (y : Stream). take (length y.written) text ≡ y.written) (sym same) s.2.1
          ],
        )

    pub other_then : IsTrue tells → TellWritten see.writes.told new end → IsSomeAnd (sink_in (B.done).part) (HasOther see.reads.told) → AreFronts x.sinks w → IsWrittenIn x end → ⊥
    other_then told T differs F W =
        let k = some_there (sink_in (B.done).part) (HasOther see.reads.told) differs in
        let c = subst (λ (o : Option (ComparingValue S)). MatchOption o (x.sinks place ≡ None) (λ snk. (x.sinks place ≢ None) × (see.reads.told snk.src ≡ x.sinks place))) k.1 (compared told) in
        let text = not_none (x.sinks place) c.0 in
        let s = there_is (stream_of place w) _ (F place text.0 text.1) in
        let t = its_stream place s.0 s.1 in
        let known : (t.0).known ≡ Some [] = (t.2).known ∙ s.2.0 in
        let front = subst (λ (o : Option Stream). MatchOption o ⊥ (λ y. take (length y.written) text.0 ≡ y.written)) t.1 (W place text.0 text.1) in
        no_front (see.reads.told (k.0).src) text.0 (c.1 ∙ text.1) k.0 (t.0).written (tells_then T k.0 k.1 t.0 t.1 known) k.2 front

    -- ---- the line

    module _ (at : Moment) (is : at.world ≡ w) (line : LogLine) (name : List ℕ) (says : (line.said).act ≡ lines.Finish name) (part : PartLine) (P : IsPlayer x.scene place name part work.component) (whole : (B.done).fault ≡ None) where
      its_player : IsPlayer x.scene place name part (B.done).component
      its_player = subst (IsPlayer x.scene place name part) (sym (B.run).component) P

      pub answers_then : (line.said).reply ≡ texts.Finished (B.done).frames → Answers x at line end
      answers_then e = returned.answered see old new w (out_of work) B.done I.sound I.stands H B.run B.moved x at line is name says place part its_player whole e

      pub unanswers_then : HaveOwnNames (x.scene).parts → ((line.said).reply ≡ texts.Finished (B.done).frames → ⊥) → (v : World) → Answers x at line v → ⊥
      unanswers_then own n = returned.unanswered see old new w (out_of work) B.done I.sound I.stands H B.run B.moved x at line is name says place part its_player whole own n
