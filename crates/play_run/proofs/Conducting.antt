-- The conductor hears what the components told, and what it answers is done.
use Rattle.std.proofs.Common.{◌≡◌, ◌≢◌, ◌+◌, ◌<◌, ◌≤◌, ℕ, suc, true, false, nat_eq, ◌==◌, ◌&&◌, List, [], ◌∷◌, length, map, set, take, Option, Some, refl, sym, ◌∙◌, ap, subst, eqb-true, eq-eqb, arith}
use Rattle.std.proofs.lemmas.List.{length-take-le}
use Rattle.omx_types.specs.declared.state.State.{State}
use Rattle.omx_types.specs.declared.state.State.TheVariants.{Executing, Loaded}
use Rattle.il_machine.specs.declared.answer.Progress.{Progress}
use Rattle.il_machine.specs.Acts as machine
use Rattle.il_machine.specs.World.{World}
use Rattle.il_machine.specs.Due.{IsClosed}
use Rattle.il_machine.specs.Whole.{Always}
use Rattle.machine_laws.proofs.Accepting.{both_of}
use Rattle.machine_laws.proofs.Finding.{either}
use Rattle.il_graph.specs.Shown.{Shown}
use Rattle.conductor.specs.declared.phase.ChangeStep.{ChangeStep}
use Rattle.conductor.specs.declared.phase.Phase.TheVariants as phases
use Rattle.conductor.specs.Hearing.{ConductorValue, heard as heard_by}
use Rattle.conductor.specs.Phases.{Conducts, all_told}
use Rattle.play_forms.specs.Plans.{PlanValue}
use Rattle.play_model.specs.Play.{Play}
use Rattle.play_model.specs.Acts.{Act, CanAct, acted}
use Rattle.play_loop.specs.Turns.{CanNone, IsAtRest, IsSend, SomePlay, Turned}
use Rattle.play_world_laws.specs.Cast.{script_place}
use Rattle.play_world_laws.specs.Standing.{target}
use Rattle.play_world_laws.proofs.Lists.{get_there}
use Rattle.stream_plan.proofs.Lists.{set_at, set_other, slice_get_front}
use Rattle.play_plan_laws.specs.Conducting.{HasViews}
use Rattle.play_stream_laws.specs.Contents.{PlayContents}
use Rattle.play_world_laws.specs.PlayWorlds.{IsPlayWorld, PlayCast}
use Rattle.play_world_laws.proofs.StageHappening.{none_due}
use Rattle.play_turn_laws.specs.Conducting.{IsChangeOf, IsPlayConductor}
use Rattle.play_turn_laws.proofs.Changing.{conductor_changes, conductor_goes_on}
use Rattle.play_turn_laws.proofs.Sending.{conductor_over, conductor_whole}
use Rattle.play_stream_laws.specs.PlayStreams.{HasPlayStreams}
use Rattle.play_turn_laws.specs.Playing.{AreSent, IsBetweenTurns, IsPlayConducted}
use Rattle.play_turn_laws.proofs.Playing.{playing_begins, playing_hears, playing_waits}
use Rattle.play_plan_laws.specs.Assemblies.{play_cast_of}
use Rattle.play_graph.specs.Graphs.{kept_of}
use Rattle.play_log.specs.Entries.{steps_of}
use Rattle.play_result_laws.specs.Asked.{acts_of as asked_acts, sending, tuned}
use Rattle.play_run.specs.Asking.{Asks, asking_of, handles_of}
use Rattle.play_run.specs.Changing.{CanChangeFrom, ChangedFrom, IsChanging, IsSourceOf}
use Rattle.play_run.specs.Playing.{AsksIn, HasStreamsFrom, IsPlaying, IsProgressAt, IsStanding, PlayingValue, TurnsTo, cast, layout_of}
use Rattle.play_run.specs.Sending.{AreViews, CanSend, IsSending, SentOf}
use Rattle.play_run.proofs.Hearing.{client_there, heard_is}
use Rattle.play_run.proofs.Asking.{heard_asks, state_begins}
use Rattle.play_run.proofs.Changes.{change_begins}
use Rattle.play_run.proofs.Onward.{recent_now}
use Rattle.play_run.proofs.Recording.{with_asks}
use Rattle.play_run.proofs.Timing.{begin_in_time}

-- what the begin of a state leaves of the streams, as the law of begun streams has it
abbrev pub BegunStreams : Type 0
BegunStreams = (x : PlayCast) (k : PlayContents) (recent : ℕ) (p : Play) (w : World) → IsPlayWorld x recent p w → CanAct (x.cast).layout p Act.Begin
    → HasPlayStreams x k p w → HasPlayStreams x k (acted (x.cast).layout Act.Begin p) w

-- once four states were sent no link is changed
no_step : (sends : ℕ) (told : List Progress) → (sends == 4 && all_told Loaded told) ≡ true → (sends == 2 && all_told Executing told) ≡ true → ⊥
no_step sends told over may =
    let four = eqb-true sends 4 (both_of (sends == 4) (all_told Loaded told) over).0 in
    let two = eqb-true sends 2 (both_of (sends == 2) (all_told Executing told) may).0 in
    omega (arith, four, two)

module _ {S K : Type 0} where
  -- what is seen is what was heard of each component
  has_views : (x : PlayingValue S K) (p : Play) (Z : IsStanding x p) (views : List (Option Progress)) → length views ≡ length x.plan.parts → AreViews x.graph views (length x.plan.parts) → HasViews (cast x.plan) Z.world x.conductor views
  has_views x p Z views many seen = record {
    known_many = ((Z.conducted).conducting).many;
    many = many;
    each = λ c a b e.
        let y = cast x.plan in
        let w = Z.world in
        let inside : script_place y c < length x.plan.parts = (((Z.conducted).play).cast_is).placed c b in
        let m = ((Z.conducted).conducting).many in
        let old = get_there (x.conductor).told (script_place y c) (omega arith) in
        let view = seen (script_place y c) inside in
        let o = client_there x p Z c b a e in
        record {
          old = old.0;
          view = Some view.0;
          known = old.1;
          there = view.1;
          now = view.2 w Z.stands a e ∙ sym (heard_is w a o);
        };
  }

  abbrev pub with_conductor : PlayingValue S K → ConductorValue → PlayingValue S K
  with_conductor x value = record x { conductor = value }

  -- the graph stands for the play with what the conductor knows then, of which this is left to be asked
  conducted : (x : PlayingValue S K) (p q : Play) (recent : ℕ) (value : ConductorValue) (left : List (machine.Act × machine.Reply)) (Z : IsStanding x p) → IsPlayConducted (play_cast_of x.plan) recent q Z.world value
      → HasStreamsFrom (play_cast_of x.plan) Z.opening q Z.world → Asks x.plan Z.files Z.opening recent value left (steps_of (Z.recorded).history)
      → (Y : IsStanding (with_conductor x value) q) × (Y.files ≡ Z.files) × (Y.recent ≡ recent) × (Y.left ≡ left) × (Y.opening ≡ Z.opening)
  conducted x p q recent value left Z L F A = (
    record {
      world = Z.world;
      stands = Z.stands;
      recent = recent;
      conducted = L;
      valid = Z.valid;
      works = Z.works;
      clients = Z.clients;
      files = Z.files;
      opening = Z.opening;
      begins = Z.begins;
      left = left;
      recorded = with_asks x.plan.parts Z.opening Z.world x.log (AsksIn x p Z) (Asks x.plan Z.files Z.opening recent value left) Z.recorded A;
      streams = F;
      told = Z.told;
    },
    refl,
    refl,
    refl,
    refl,
  )

  module _ (x : PlayingValue S K) (views : List (Option Progress)) (many : length views ≡ length x.plan.parts) (seen : AreViews x.graph views (length x.plan.parts)) (next : ConductorValue) where
    abbrev value : ConductorValue
    value = heard_by x.conductor views

    -- it has heard what each component told
    heard_now : (p : Play) (Y : IsPlaying x p) → IsPlayConductor (cast x.plan) Y.standing.recent p value × IsBetweenTurns (play_cast_of x.plan) Y.standing.recent p Y.standing.world value
    heard_now p Y =
        let Z = Y.standing in
        playing_hears (play_cast_of x.plan) Z.recent p Z.world x.conductor views (record { standing = Z.conducted; sent = Y.sent; carried = Y.carried }) (has_views x p Z views many seen)

    -- ---- nothing is to be done

    still : (p : Play) (Y : IsPlaying x p) → next ≡ value → CanNone (layout_of x.plan) p IsSend → (q : Play) × (Z : IsPlaying (with_conductor x next) q) × Turned (layout_of x.plan) p q false IsSend × (Z.standing.files ≡ Y.standing.files)
    still p Y e none =
        let Z = Y.standing in
        let L = subst (λ (v : ConductorValue). IsBetweenTurns (play_cast_of x.plan) Z.recent p Z.world v) (sym e) (heard_now p Y).1 in
        let asks = subst (λ (v : ConductorValue). Asks x.plan Z.files Z.opening Z.recent v Z.left (steps_of (Z.recorded).history)) (sym e) (heard_asks x.plan Z.files Z.opening Z.recent x.conductor views Z.left (steps_of (Z.recorded).history) (Z.recorded).asks) in
        let A = conducted x p p Z.recent next Z.left Z L.standing Z.streams asks in
        (p, record { standing = A.0; whole = A.3 ∙ Y.whole; sent = L.sent; carried = L.carried }, (refl, none), A.1)

    pub wait_turns : Conducts value phases.Wait next → TurnsTo x (with_conductor x next) false IsSend
    wait_turns H = λ p Y.
        let Z = Y.standing in
        let V = heard_now p Y in
        let c = playing_waits (play_cast_of x.plan) Z.recent p Z.world value next V.1 V.0 H in
        still p Y c.1 c.0

    pub over_turns : Conducts value phases.Over next → TurnsTo x (with_conductor x next) false IsSend
    over_turns H = λ p Y.
        let Z = Y.standing in
        let y = play_cast_of x.plan in
        let W = (Z.conducted).play in
        let V = (heard_now p Y).0 in
        let c = conductor_over y Z.recent p Z.world W value V next H in
        let no_begin : CanAct (layout_of x.plan) p Act.Begin → ⊥ = λ B. let l = B.more in let e = (c.0).phase in absurd (omega arith) in
        let no_conduct : (l : ℕ) → CanAct (layout_of x.plan) p (Act.Conduct l) → ⊥ = λ l C.
        let t = conductor_goes_on y Z.recent p Z.world W value V l C in
        no_step value.sends value.told H.1 (t.5).1.due.now
        in
        still p Y c.1 (nothing_sent p Y.sent no_begin no_conduct)
      where
        nothing_sent : (p : Play) → AreSent (layout_of x.plan) p → (CanAct (layout_of x.plan) p Act.Begin → ⊥) → ((l : ℕ) → CanAct (layout_of x.plan) p (Act.Conduct l) → ⊥) → CanNone (layout_of x.plan) p IsSend
        nothing_sent p sent never none Act.Begin o C = never C
        nothing_sent p sent never none (Act.Send c) o C = sent c C.0 C.1
        nothing_sent p sent never none (Act.Conduct l) o C = none l C
        nothing_sent p sent never none (Act.Run c) o C = o
        nothing_sent p sent never none (Act.Happen c) o C = o
        nothing_sent p sent never none (Act.Tell c) o C = o
        nothing_sent p sent never none (Act.TellEnd c) o C = o
        nothing_sent p sent never none (Act.Supply l) o C = o
        nothing_sent p sent never none (Act.Release l) o C = o
        nothing_sent p sent never none (Act.HandOver l) o C = o
        nothing_sent p sent never none (Act.HandBack l) o C = o
        nothing_sent p sent never none (Act.HandUnused l) o C = o
        nothing_sent p sent never none (Act.Announce l) o C = o
        nothing_sent p sent never none (Act.TellSettings l) o C = o
        nothing_sent p sent never none (Act.RunPort l output) o C = o
        nothing_sent p sent never none (Act.HappenPort l output) o C = o
        nothing_sent p sent never none (Act.TellPort l output) o C = o
        nothing_sent p sent never none (Act.Step c n last) o C = o

    pub never_fails : SomePlay (IsPlaying x) → Conducts value phases.Failed next → ⊥
    never_fails (p, Y) H =
        let Z = Y.standing in
        conductor_whole (play_cast_of x.plan) Z.recent p Z.world (Z.conducted).play value (heard_now p Y).0 next H

    -- what was asked, of what it has heard; nothing of it is left
    asked_now : (p : Play) (Y : IsPlaying x p) → Asks x.plan Y.standing.files Y.standing.opening Y.standing.recent value [] (steps_of (Y.standing.recorded).history)
    asked_now p Y =
        let Z = Y.standing in
        subst (λ (left : List (machine.Act × machine.Reply)). Asks x.plan Z.files Z.opening Z.recent value left (steps_of (Z.recorded).history)) Y.whole
        (heard_asks x.plan Z.files Z.opening Z.recent x.conductor views Z.left (steps_of (Z.recorded).history) (Z.recorded).asks)

    -- ---- a state is begun

    module _ (state : State) (H : Conducts value (phases.Send state) next) (streams : BegunStreams) where
      record HasBegun (p : Play) (Y : IsPlaying x p) : Type 0 where
        can : CanAct (layout_of x.plan) p Act.Begin
        sending : IsSending (with_conductor x next) (acted (layout_of x.plan) Act.Begin p) state 0
        same : sending.standing.files ≡ Y.standing.files

      has_begun : (p : Play) (Y : IsPlaying x p) → HasBegun p Y
      has_begun p Y =
          let y = play_cast_of x.plan in
          let Z = Y.standing in
          let V = heard_now p Y in
          let c = playing_begins y Z.recent p Z.world value next state V.1 V.0 H in
          let sends : value.sends ≡ p.phase = (V.0).conducting.sends in
          let begun = state_begins x.plan Z.files Z.opening Z.recent value (steps_of (Z.recorded).history) (asked_now p Y) (let m = (c.0).more in omega (arith, m, sends)) (begin_in_time x p Y value (asked_now p Y) V.0 c.0) in
          let step : suc p.phase ≡ p.phase + 1 = omega arith in
          let is : target (suc value.sends) ≡ state = ap (λ (n : ℕ). target (suc n)) sends ∙ (ap target step ∙ sym c.1) in
          let asks = subst (λ (v : ConductorValue). Asks x.plan Z.files Z.opening Z.recent v (map (sending state) (handles_of Z.opening)) (steps_of (Z.recorded).history)) (sym H.2)
          (subst (λ (a : State). Asks x.plan Z.files Z.opening Z.recent (record value { sends = value.sends + 1 }) (map (sending a) (handles_of Z.opening)) (steps_of (Z.recorded).history)) is begun) in
          let A = conducted x p (acted (layout_of x.plan) Act.Begin p) Z.recent next (map (sending state) (handles_of Z.opening)) Z c.2 (λ k C E. streams y k Z.recent p Z.world (Z.conducted).play c.0 (Z.streams k C E)) asks in
          record {
            can = c.0;
            sending = record {
              standing = A.0;
              state_is = c.1;
              left = A.3 ∙ ap (λ (o : World). map (sending state) (handles_of o)) (sym A.4);
              sent = record { later = λ j d l. refl; before = λ j d l. absurd (omega arith) };
              carried = c.3;
            };
            same = A.1;
          }

      pub can_send : SomePlay (IsPlaying x) → CanSend (with_conductor x next) state
      can_send (p, Y) = (acted (layout_of x.plan) Act.Begin p, (has_begun p Y).sending)

      pub send_turns : (y : PlayingValue S K) → y.plan ≡ x.plan → SentOf (with_conductor x next) y state → Always (kept_of y.graph) IsClosed → TurnsTo x y true IsSend
      send_turns y same sent closed = λ p Y.
          let B = has_begun p Y in
          let T = sent (acted (layout_of x.plan) Act.Begin p) B.sending in
          let Q : IsPlaying y T.0 = T.1 in
          let Z = Q.standing in (
            T.0,
            Q,
            (
              record { acts = Act.Begin ∷ (T.2).acts; some = omega arith; enabled = (B.can, (T.2).enabled); after = (T.2).after },
              subst (λ (plan : PlanValue). IsAtRest (layout_of plan) T.0) same (none_due (play_cast_of y.plan) Z.recent T.0 Z.world (Z.conducted).play (closed Z.world Z.stands)),
            ),
            T.3 ∙ B.same,
          )

    -- ---- a step of a link's change is answered

    module _ (component : ℕ) (step : ChangeStep) (H : Conducts value (phases.Change component step) next) where
      record HasAnswered (p : Play) (Y : IsPlaying x p) : Type 0 where
        link : ℕ
        its_source : IsSourceOf x.plan component link
        changing : IsChanging (with_conductor x next) p link step 0
        same : changing.standing.files ≡ Y.standing.files

      has_answered : (p : Play) (Y : IsPlaying x p) → HasAnswered p Y
      has_answered p Y =
          let y = play_cast_of x.plan in
          let Z = Y.standing in
          let W = (Z.conducted).play in
          let c = conductor_changes y Z.recent p Z.world W value (heard_now p Y).0 next component step H in
          let l : ℕ = c.0 in
          let D : IsChangeOf y.cast p component step next l = c.1 in
          let left = asked_acts (tuned x.plan Z.files) (handles_of Z.opening) (asking_of step l) in
          let asks = change_begins x p Y value next component l step (asked_now p Y) (heard_now p Y).0 H D in
          let A = conducted x p p l next left Z (record { play = recent_now y Z.recent p Z.world l W D.can; waiting = (Z.conducted).waiting; conducting = D.conducting }) Z.streams asks in
          let e = D.from in
          record {
            link = l;
            its_source = D.its_source;
            changing = record {
              standing = A.0;
              recent = A.2;
              left = A.3 ∙ (λ i. asked_acts (tuned x.plan (sym A.1 i)) (handles_of (sym A.4 i)) (asking_of step l));
              sent = Y.sent;
              on = record {
                gone = omega (arith, e);
                can = λ m. D.can;
                number = D.number;
                known = D.known;
                there = D.there;
                of_link = D.of_link;
                way = D.way;
                carried = D.carried;
              };
            };
            same = A.1;
          }

      pub can_change : SomePlay (IsPlaying x) → CanChangeFrom (with_conductor x next) component step
      can_change (p, Y) = let A = has_answered p Y in (A.link, A.its_source, (p, A.changing))

      pub change_turns : (y : PlayingValue S K) → ChangedFrom (with_conductor x next) y component step → TurnsTo x y true IsSend
      change_turns y changed = λ p Y.
          let A = has_answered p Y in
          let T = changed A.link A.its_source p A.changing in
          (T.0, T.1, (T.2, T.3), T.4 ∙ A.same)

  -- ---- what is seen, one component more

  pub views_more : (graph : Shown S K Progress) (views : List (Option Progress)) (n : ℕ) (progress : Progress) → n < length views → AreViews graph views n → IsProgressAt graph n progress → AreViews graph (set views n (Some progress)) (n + 1)
  views_more graph views n progress b seen now = λ k l. either (nat_eq k n)
      (λ t.
      let e : k ≡ n = eqb-true k n t in
      (progress, (rw e (set_at views n (Some progress) b)), subst (λ (j : ℕ). IsProgressAt graph j progress) (sym e) now))
      (λ f.
      let e : k ≢ n = λ q. let t = eq-eqb k n q in absurd cc in
      let v = seen k (omega (arith, l, e)) in
      (v.0, set_other views n k (Some progress) e ∙ v.1, v.2))

  pub views_front : (graph : Shown S K Progress) (views : List (Option Progress)) (n : ℕ) → AreViews graph views n → AreViews graph (take n views) n
  views_front graph views n seen = λ k l. let v = seen k l in (v.0, slice_get_front views n k (Some v.0) l v.1, v.2)

  -- ---- of what is known where the conductor was asked

  pub told_many : (y x : PlayingValue S K) → y ≡ x → (n : ℕ) → n ≡ length x.plan.parts → SomePlay (IsPlaying x) → n ≡ length (y.conductor).told
  told_many y x is n e (p, Y) = e ∙ (sym ((Y.standing.conducted).conducting).many ∙ ap (λ (z : PlayingValue S K). length (z.conductor).told) (sym is))

  module _ (y x : PlayingValue S K) (is : y ≡ x) (all : List (Option Progress)) (n : ℕ) (count : n ≡ length x.plan.parts) (enough : n ≤ length all) (seen : AreViews x.graph all (length x.plan.parts)) (next : ConductorValue) where
    many_here : length (take n all) ≡ length y.plan.parts
    many_here = length-take-le n all enough ∙ (count ∙ ap (λ (z : PlayingValue S K). length z.plan.parts) (sym is))

    seen_here : AreViews y.graph (take n all) (length y.plan.parts)
    seen_here =
        let front = views_front x.graph all n (subst (AreViews x.graph all) (sym count) seen) in
        subst (λ (z : PlayingValue S K). AreViews z.graph (take n all) (length z.plan.parts)) (sym is) (subst (AreViews x.graph (take n all)) count front)

    some_here : SomePlay (IsPlaying x) → SomePlay (IsPlaying y)
    some_here s = subst (λ (z : PlayingValue S K). SomePlay (IsPlaying z)) (sym is) s

    pub wait_answer : Conducts (heard_by y.conductor (take n all)) phases.Wait next → TurnsTo x (with_conductor y next) false IsSend
    wait_answer H = subst (λ (z : PlayingValue S K). TurnsTo z (with_conductor y next) false IsSend) is (wait_turns y (take n all) many_here seen_here next H)

    pub over_answer : Conducts (heard_by y.conductor (take n all)) phases.Over next → TurnsTo x (with_conductor y next) false IsSend
    over_answer H = subst (λ (z : PlayingValue S K). TurnsTo z (with_conductor y next) false IsSend) is (over_turns y (take n all) many_here seen_here next H)

    pub no_failure : SomePlay (IsPlaying x) → Conducts (heard_by y.conductor (take n all)) phases.Failed next → ⊥
    no_failure s H = never_fails y (take n all) many_here seen_here next (some_here s) H

    pub may_send : SomePlay (IsPlaying x) → (state : State) → Conducts (heard_by y.conductor (take n all)) (phases.Send state) next → BegunStreams → CanSend (with_conductor y next) state
    may_send s state H streams = can_send y (take n all) many_here seen_here next state H streams (some_here s)

    pub send_answer : (state : State) → Conducts (heard_by y.conductor (take n all)) (phases.Send state) next → BegunStreams → (z : PlayingValue S K) → z.plan ≡ y.plan → SentOf (with_conductor y next) z state → Always (kept_of z.graph) IsClosed
        → TurnsTo x z true IsSend
    send_answer state H streams z same sent closed = subst (λ (q : PlayingValue S K). TurnsTo q z true IsSend) is (send_turns y (take n all) many_here seen_here next state H streams z same sent closed)

    pub may_change : SomePlay (IsPlaying x) → (component : ℕ) (step : ChangeStep) → Conducts (heard_by y.conductor (take n all)) (phases.Change component step) next → CanChangeFrom (with_conductor y next) component step
    may_change s component step H = can_change y (take n all) many_here seen_here next component step H (some_here s)

    pub change_answer : (component : ℕ) (step : ChangeStep) → Conducts (heard_by y.conductor (take n all)) (phases.Change component step) next → (z : PlayingValue S K) → ChangedFrom (with_conductor y next) z component step → TurnsTo x z true IsSend
    change_answer component step H z changed = subst (λ (q : PlayingValue S K). TurnsTo q z true IsSend) is (change_turns y (take n all) many_here seen_here next component step H z changed)
