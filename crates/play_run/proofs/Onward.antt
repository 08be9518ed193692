-- A step of a link's change goes on by one act of the conductor, and steps on a link are made one behind another.
use Rattle.std.proofs.Common.{◌≡◌, inl, inr, ◌+◌, ◌<◌, ◌≤◌, ℕ, true, List, [], drop, length, slice_get, refl, sym, ◌∙◌, ap, subst, arith}
use Rattle.omx_types.specs.declared.handle.Handle.{Handle}
use Rattle.il_machine.specs.declared.answer.Progress.{Progress}
use Rattle.il_machine.specs.Acts as machine
use Rattle.il_machine.specs.World.{Component, World}
use Rattle.il_machine.specs.Whole.{Stands}
use Rattle.il_graph.specs.Shown.{Shown}
use Rattle.conductor.specs.declared.phase.ChangeStep.{ChangeStep}
use Rattle.conductor.specs.declared.phase.ChangeStep.TheVariants.{Disable, Retune, Enable}
use Rattle.conductor.specs.declared.phase.LateLink.{LateLink}
use Rattle.part_forms.specs.Kinds.{is_late}
use Rattle.play_forms.specs.Parts.{passes_at}
use Rattle.play_forms.specs.Plans.{PlanValue}
use Rattle.play_model.specs.Play.{Layout, Play}
use Rattle.play_model.specs.Acts.{Act, CanAct, acted}
use Rattle.play_loop.specs.Turns.{HasActed, IsAtRest, IsSend}
use Rattle.play_loop.proofs.Running.{turn_more}
use Rattle.play_log.specs.Kept.{LogValue}
use Rattle.play_world_laws.specs.Cast.{Cast, script_place, giver_of}
use Rattle.play_plan_laws.specs.Casting.{joint_of}
use Rattle.play_world_laws.specs.PlayWorlds.{IsActorAt, IsPlayWorld, PlayCast, port_number}
use Rattle.play_world_laws.specs.Leading.{PlayLeadsTo}
use Rattle.play_world_laws.proofs.Around.{none_told}
use Rattle.play_world_laws.proofs.Sending.{turn_of}
use Rattle.play_turn_laws.specs.Conducting.{HasGoneOn, IsPlayConducting, step_from, step_to}
use Rattle.play_turn_laws.proofs.Hearing.{one_link}
use Rattle.play_turn_laws.proofs.Playing.{change_stands}
use Rattle.play_turn_laws.proofs.Turning.{change_goes}
use Rattle.play_plan_laws.specs.Assemblies.{play_cast_of}
use Rattle.play_graph.specs.declared.link_end.End.TheVariants.{Output}
use Rattle.play_graph.specs.Graphs.{kept_of}
use Rattle.play_build_laws.specs.Assembly.{Assembly}
use Rattle.play_result_laws.specs.Asked.{acts_of as asked_acts, tuned}
use Rattle.play_run.specs.Asking.{Asks, asking_of, handles_of}
use Rattle.play_run.specs.Playing.{AreClientsIn, HasParts, HaveNoWork, IsPlaying, IsStanding, PlayingValue, ToldAlike, cast, layout_of}
use Rattle.play_run.specs.Recording.{IsRecorded}
use Rattle.play_run.specs.Changing.{CanChange, CanChangeFrom, ChangedFrom, ChangesTo, IsChanging, IsLinkFrom, IsOnStep, IsSourceOf, acts_of}
use Rattle.play_run.proofs.Answering.{parts_of, with_both}
use Rattle.play_run.proofs.Rounding.{standing_few}
use Rattle.play_run.proofs.Ends.{end_place}
use Rattle.play_run.proofs.Streaming.{StreamsOn, streams_go}

-- ---- the acts of a step

pub all_acts : (step : ChangeStep) → step_from step + acts_of step ≡ step_to step
all_acts Disable = refl
all_acts Retune = refl
all_acts Enable = refl

all_made : (s : Assembly) (handles : List Handle) (step : ChangeStep) (l : ℕ) → drop (acts_of step) (asked_acts s handles (asking_of step l)) ≡ []
all_made s handles Disable l = refl
all_made s handles Retune l = refl
all_made s handles Enable l = refl

-- behind the first act of a step nothing else is asked
can_later : (w : Layout) (q : Play) (l : ℕ) (step : ChangeStep) (n : ℕ) → l < (w.network).links → w.is_late l ≡ true → (q.change l).step ≡ step_from step + (n + 1) → n + 1 < acts_of step → CanAct w q (Act.Conduct l)
can_later w q l Disable n b t e m = record { below = b; late = t; told = omega (arith, e); more = omega (arith, e, m); next = λ f. absurd (omega (arith, e, f)); disabled = λ f. absurd (omega (arith, e, m, f)) }
can_later w q l Retune n b t e m = record { below = b; late = t; told = omega (arith, e); more = omega (arith, e, m); next = λ f. absurd (omega (arith, e, f)); disabled = λ f. absurd (omega (arith, e, m, f)) }
can_later w q l Enable n b t e m = record { below = b; late = t; told = omega (arith, e); more = omega (arith, e, m); next = λ f. absurd (omega (arith, e, f)); disabled = λ f. absurd (omega (arith, e, m, f)) }

on_goes : (x : Cast) (p q : Play) (lates : List LateLink) (l : ℕ) (step : ChangeStep) (n : ℕ) → IsOnStep x p lates l step n → HasGoneOn l p q 1 → IsOnStep x q lates l step (n + 1)
on_goes x p q lates l step n O G =
    let a = G.on_link in
    let b = O.gone in
    let gone : (q.change l).step ≡ step_from step + (n + 1) = omega (arith, a, b) in
    record {
      gone = gone;
      can = λ m. can_later x.layout q l step n (O.of_link).below (O.of_link).late gone m;
      number = O.number;
      known = O.known;
      there = O.there;
      of_link = O.of_link;
      way = O.way;
      carried = λ r e others. O.carried r e (λ k a. others k a ∙ G.others k a);
    }

-- ---- the link is the one whose change was begun last

pub recent_now : (x : PlayCast) (recent : ℕ) (p : Play) (w : World) (l : ℕ) → IsPlayWorld x recent p w → CanAct (x.cast).layout p (Act.Conduct l) → IsPlayWorld x l p w
recent_now x recent p w l W C =
    let T = turn_of x recent p w l W C in
    elim T.latest [
      | inl e ↦ subst (λ (r : ℕ). IsPlayWorld x r p w) (sym e) W
      | inr z ↦ record {
        cast_is = W.cast_is;
        formats = W.formats;
        reached = W.reached;
        sound = W.sound;
        many = W.many;
        actors = λ c a b e. actor_now c a z.1 z.2 (W.actors c a b e);
        half = T.alone;
        wired = W.wired;
        ends = W.ends;
        viewed = W.viewed;
        headers = W.headers;
        tunnelled = W.tunnelled;
        units = W.units;
        numbers = W.numbers;
      }
    ]
  where
    actor_now : (c : ℕ) (a : Component) → (p.change l).output ≡ 0 → (p.change l).input ≡ 0 → IsActorAt x recent p w c a → IsActorAt x l p w c a
    actor_now c a f g A =
        let H = A.heard_so in
        record {
          number = A.number;
          stands = A.stands;
          set_for = A.set_for;
          roomy = A.roomy;
          source = A.source;
          sink = A.sink;
          late = A.late;
          late_format = A.late_format;
          file = A.file;
          notes = A.notes;
          heard_so = record {
            state = H.state;
            eos = H.eos;
            error = H.error;
            settings = H.settings;
            port = λ s b d t u. absurd (none_told s (p.change l) (port_number x.cast s l) f g u);
            past = H.past;
            nothing = H.nothing;
          };
          out = A.out;
          part = A.part;
          done = A.done;
          work = A.work;
          running = A.running;
          over = A.over;
          unsteady = A.unsteady;
        }

-- ---- a play in which a step is made

module _ {S K : Type 0} where
  -- what is left to be asked of the step once so many of its acts are made
  abbrev pub left_of : (x : PlayingValue S K) (p : Play) (l : ℕ) (step : ChangeStep) (made : ℕ) → IsStanding x p → List (machine.Act × machine.Reply)
  left_of x p l step made Z = drop made (asked_acts (tuned x.plan Z.files) (handles_of Z.opening) (asking_of step l))

  -- one act more is made, with its close-out
  pub act_made : (x : PlayingValue S K) (g : Shown S K Progress) (log : LogValue) (l : ℕ) (step : ChangeStep) (n : ℕ) (p : Play) (Y : IsChanging x p l step n) (v : World) → n < acts_of step
      → Stands (kept_of g) v → HaveNoWork v → AreClientsIn g.core → PlayLeadsTo (play_cast_of x.plan) l (acted (layout_of x.plan) (Act.Conduct l) p) v
      → IsRecorded x.plan.parts Y.standing.opening v log (Asks x.plan Y.standing.files Y.standing.opening l x.conductor (left_of x p l step (n + 1) Y.standing)) → StreamsOn (play_cast_of x.plan) p Y.standing.world v → ToldAlike Y.standing.opening v
      → (q : Play) × (Z : IsChanging (with_both x g log) q l step (n + 1)) × HasActed (layout_of x.plan) p q × IsAtRest (layout_of x.plan) q × (Z.standing.files ≡ Y.standing.files)
  act_made x g log l step n p Y v m st works clients L R F T =
      let y = play_cast_of x.plan in
      let Z = Y.standing in
      let O = Y.on in
      let C = O.can m in
      let t = change_goes y Z.recent p l Z.world v (Z.conducted).play (Z.conducted).waiting C L in
      let q : Play = t.0 in
      let U = t.1 in
      let D : IsPlayConducting y.cast l p x.conductor = subst (λ (r : ℕ). IsPlayConducting y.cast r p x.conductor) Y.recent (Z.conducted).conducting in
      let a = all_acts step in
      let b = O.gone in
      let way = O.way ((p.change l).step + 1) (omega (arith, b)) (omega (arith, a, b, m)) in
      let late = change_stands y p q l O.number O.known v x.conductor D U O.there O.of_link way in (
        q,
        record {
          standing = record {
            world = v;
            stands = st;
            recent = l;
            conducted = late;
            valid = Z.valid;
            works = works;
            clients = clients;
            files = Z.files;
            opening = Z.opening;
            begins = Z.begins;
            left = left_of x p l step (n + 1) Z;
            recorded = R;
            streams = streams_go y p Z.opening Z.world v Z.streams F l q U.play U.phase;
            told = T;
          };
          recent = refl;
          left = refl;
          sent = λ c d. U.sent c (Y.sent c d);
          on = on_goes y.cast p q (x.conductor).lates l step n O U.on;
        },
        U.acted,
        U.rest,
        refl,
      )

  -- acts behind acts
  pub changes_more : (a b c : PlayingValue S K) (l : ℕ) (step : ChangeStep) (n m k : ℕ) → b.plan ≡ a.plan → ChangesTo a b l step n m → ChangesTo b c l step m k → ChangesTo a c l step n k
  changes_more a b c l step n m k same T U = λ p Y.
      let t = T p Y in
      let u = U t.0 t.1 in
      let w = layout_of a.plan in
      let B : HasActed w t.0 u.0 × IsAtRest w u.0 = subst (λ (plan : PlanValue). HasActed (layout_of plan) t.0 u.0 × IsAtRest (layout_of plan) u.0) same (u.2, u.3) in
      let J = turn_more w p t.0 u.0 true true IsSend IsSend (t.2, t.3) B in
      (u.0, u.1, J.0, J.1, u.4 ∙ t.4)

  pub can_then : (a b : PlayingValue S K) (l : ℕ) (step : ChangeStep) (n m : ℕ) → ChangesTo a b l step n m → CanChange a l step n → CanChange b l step m
  can_then a b l step n m T (p, Y) = let t = T p Y in (t.0, t.1)

  -- all acts are made
  step_plays : (x : PlayingValue S K) (q : Play) (l : ℕ) (step : ChangeStep) (Y : IsChanging x q l step (acts_of step)) → (Z : IsPlaying x q) × (Z.standing.files ≡ Y.standing.files)
  step_plays x q l step Y =
      let O = Y.on in
      (record { standing = Y.standing; whole = Y.left ∙ all_made (tuned x.plan Y.standing.files) (handles_of Y.standing.opening) step l; sent = Y.sent; carried = O.carried q (O.gone ∙ all_acts step) (λ k n. refl) }, refl)

  -- ---- the link of a late source

  pub changing_parts : (x : PlayingValue S K) (l : ℕ) (step : ChangeStep) (n : ℕ) → CanChange x l step n → HasParts x
  changing_parts x l step n (p, Y) = parts_of x p Y.standing

  pub changing_there : (x : PlayingValue S K) (l : ℕ) (step : ChangeStep) (n : ℕ) → CanChange x l step n → l < length x.plan.joints
  changing_there x l step n (p, Y) = ((Y.on).of_link).below

  pub changing_few : (x : PlayingValue S K) (place : ℕ) (step : ChangeStep) → CanChangeFrom x place step → length x.plan.joints ≤ 1024
  changing_few x place step (l, s, (p, Y)) = standing_few x p Y.standing

  pub source_link : (x : PlayingValue S K) (place : ℕ) (step : ChangeStep) → CanChangeFrom x place step → (l : ℕ) × IsLinkFrom x.plan place l
  source_link x place step (l, s, C) =
      let below = changing_there x l step 0 C in
      let Y = C.1 in
      (l, record { below = below; gives = sym (end_place x.plan l Output (Y.standing).valid below) ∙ sym s })

  -- it is the one link that the source gives into
  only_link : (x : PlayingValue S K) (place : ℕ) (step : ChangeStep) (l k : ℕ) (p : Play) → IsSourceOf x.plan place l → IsChanging x p l step 0 → IsLinkFrom x.plan place k → k ≡ l
  only_link x place step l k p s Y F =
      let y = cast x.plan in
      let Z = Y.standing in
      let O = Y.on in
      let same : (joint_of x.plan k).giver ≡ (joint_of x.plan l).giver = F.gives ∙ (s ∙ end_place x.plan l Output Z.valid (O.of_link).below) in
      let late : (layout_of x.plan).is_late k ≡ true = ap (λ (i : ℕ). passes_at is_late (slice_get x.plan.parts i)) same ∙ (O.of_link).late in
      let E = ((Z.conducted).conducting).lates.some k F.below late in
      let A = (E.3).of_link in
      let place_is : script_place y (giver_of y k) ≡ place = end_place x.plan k Output Z.valid F.below ∙ F.gives in
      one_link y k l E.1 O.known ((Z.conducted).play).cast_is A O.of_link (A.source ∙ (place_is ∙ (s ∙ sym (O.of_link).source)))

  pub change_done : (a b : PlayingValue S K) (place k : ℕ) (step : ChangeStep) → IsLinkFrom a.plan place k → ChangesTo a b k step 0 (acts_of step) → ChangedFrom a b place step
  change_done a b place k step F T = λ l s p Y.
      let is = only_link a place step l k p s Y F in
      let t = subst (λ (j : ℕ). ChangesTo a b j step 0 (acts_of step)) is T p Y in
      let P = step_plays b t.0 l step t.1 in
      (t.0, P.0, t.2, t.3, P.1 ∙ t.4)

  pub can_link : (x : PlayingValue S K) (place k : ℕ) (step : ChangeStep) → IsLinkFrom x.plan place k → CanChangeFrom x place step → CanChange x k step 0
  can_link x place k step F (l, s, C) =
      let Y = C.1 in
      let is = only_link x place step l k C.0 s Y F in
      subst (λ (j : ℕ). CanChange x j step 0) (sym is) C
