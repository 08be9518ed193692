-- The rounds of the one who conducts, among the acts of others: they are a history of the play, and what it knows then.
use Rattle.std.proofs.Common.{◌≡◌, inl, inr, ℕ, ◌<◌, ◌≤◌, Bool, false, List, [], ◌∷◌, ◌++◌, map, length, Option, is_some, refl, sym, ◌∙◌, ap, subst, append-nil, append_assoc, arith}
use Rattle.std.proofs.lemmas.Bool.{cases_lt}
use Rattle.omx_types.specs.declared.handle.Handle.{Handle}
use Rattle.omx_types.specs.declared.state.State.TheVariants.{Loaded}
use Rattle.il_machine.specs.declared.answer.Progress.{Progress}
use Rattle.il_machine.specs.Acts.{Act as MachineAct, Reply}
use Rattle.il_machine.specs.Run.{Run}
use Rattle.il_machine.specs.World.{Stream, World}
use Rattle.machine_laws.proofs.Every.{none_passes}
use Rattle.conductor.specs.declared.phase.Phase.{Phase}
use Rattle.conductor.specs.declared.phase.Phase.TheVariants as phases
use Rattle.conductor.specs.Casting as conductors
use Rattle.conductor.specs.Hearing.{ConductorValue, heard}
use Rattle.conductor.specs.Phases.{Conducts, has_failed}
use Rattle.play_build_laws.specs.Stages.{IsStage, Joining}
use Rattle.play_forms.specs.Plans.{PlanValue}
use Rattle.play_model.specs.Play.{Play}
use Rattle.play_world_laws.specs.Openings.{opening}
use Rattle.play_world_laws.specs.PlayWorlds.{PlayCast}
use Rattle.play_plan_laws.specs.Assemblies.{IsReady, PlayFiles, assembly_of, play_cast_of}
use Rattle.play_result_laws.specs.Asked.{AreAllAt, acts_of, sending, tuned}
use Rattle.read_world_laws.specs.Inside.{inside}
use Rattle.read_world_laws.specs.Mended.{mend}
use Rattle.play_history_laws.specs.Order.{Cursor, nothing_asked}
use Rattle.play_history_laws.specs.Faults.{IsFaultHistory, IsFaulty}
use Rattle.play_history_laws.specs.Behind.{IsOld}
use Rattle.play_history_laws.proofs.Standing.{old_over}
use Rattle.play_history_laws.specs.Askings.{IsPlanHistory}
use Rattle.play_log.specs.Entries.{Entry, steps_of}
use Rattle.play_result_laws.specs.Passes.{own_steps}
use Rattle.play_history_laws.specs.Passes.{RequestAlone}
use Rattle.play_history_laws.proofs.Answered.{states_told}
use Rattle.play_history_laws.proofs.Askings.{link_is, many}
use Rattle.play_history_laws.proofs.PlanOpening.{plan_faulty}
use Rattle.play_result_laws.specs.Rounds.{AreMade, IsConducting, IsRefused, asking_by, begins, looks, round}
use Rattle.play_history_laws.proofs.ChangeActs.{ChangesStep, changes_accept, changes_first, changes_last, changes_others, changes_own}
use Rattle.play_history_laws.proofs.AskedInTime.{state_done}
use Rattle.play_history_laws.proofs.Knowing.{AreJoined, HasFailed, Holds, holds_first, holds_on, joined_old}
use Rattle.play_history_laws.proofs.Seeing.{LooksOn, looks_first, looks_last, looks_others, looks_own}
use Rattle.play_history_laws.proofs.Sending.{SendsOn, sends_accept, sends_first, sends_last, sends_others, sends_own}
use Rattle.play_history_laws.proofs.PassWalk.{Stand, ends, none_refused, walk}

-- ---- a conductor that was told an error

has_error : (plan : PlanValue) (value : ConductorValue) (p : Play) (v : World) → HasFailed plan value p v → has_failed value.told ≡ false → ⊥
has_error plan value p v T f = let z = none_passes (λ (y : Progress). is_some y.error) value.told T.place T.progress f T.there in let t = T.error in absurd cc

module _ (plan : PlanValue) (files : PlayFiles) (handles : List Handle) (w : World) (ready : IsReady plan files) (stage : IsStage (assembly_of plan files) (Joining (length plan.joints)) handles w)
    (own : ℕ → Bool) (entries : List Entry) (after : World) where
  abbrev x : PlayCast
  x = play_cast_of plan

  abbrev first : Cursor
  first = nothing_asked x.cast

  abbrev At : (Cursor → ℕ → Play → World → Type 0) → List (MachineAct × Reply) → Type 0
  At K rest = Stand x first w own entries after K rest

  same_many : length handles ≡ length plan.parts
  same_many = many plan files handles w [] first w (record { ready = ready; stage = stage; goes = (refl, refl) })

  -- what holds where one stands, said otherwise
  restand : (K L : Cursor → ℕ → Play → World → Type 0) (rest more : List (MachineAct × Reply)) → rest ≡ more → ((k : Cursor) (r : ℕ) (p : Play) (ss : List Stream) (v : World) → IsFaulty x k r p ss v → K k r p v → L k r p v) → At K rest → At L more
  restand K L rest more e f S = record {
    before = S.before;
    left = S.left;
    all = S.all;
    mine = S.mine ∙ e;
    alone = S.alone;
    world = S.world;
    run = S.run;
    cursor = S.cursor;
    history = S.history;
    recent = S.recent;
    now = S.now;
    streams = S.streams;
    faulty = S.faulty;
    knows = f S.cursor S.recent S.now S.streams S.world S.faulty S.knows;
  }

  -- ---- one round

  module _ (one : 1 ≤ length plan.parts) where
    -- an answer that asks for acts is one of who knows no more than is so
    knows_old : (value : ConductorValue) (k : Cursor) (r : ℕ) (p : Play) (v : World) → has_failed value.told ≡ false → Holds plan value k r p v → IsOld x.cast r p value
    knows_old value k r p v f H = elim H.knows [ inl V ↦ V | inr T ↦ absurd (has_error plan value p v T f) ]

    -- a phase without acts
    none : (value next : ConductorValue) (made rest : List (MachineAct × Reply)) → made ≡ [] → next ≡ value → At (Holds plan value) (made ++ rest) → At (Holds plan next) rest
    none value next made rest M e S = restand (Holds plan value) (Holds plan next) (made ++ rest) rest (ap (λ (ys : List (MachineAct × Reply)). ys ++ rest) M) (λ k r p ss v D H. subst (λ (y : ConductorValue). Holds plan y k r p v) (sym e) H) S

    makes : (value : ConductorValue) (phase : Phase) (next : ConductorValue) (made rest : List (MachineAct × Reply)) → Conducts value phase next → AreMade plan files handles phase made → At (Holds plan value) (made ++ rest) → At (Holds plan next) rest
    makes value (phases.Send state) next made rest C M S =
        let start = restand (Holds plan value) (SendsOn plan files handles w ready stage value next state C (map (sending state) handles)) (made ++ rest) (map (sending state) handles ++ rest) (ap (λ (ys : List (MachineAct × Reply)). ys ++ rest) M)
        (λ k r p ss v D H. sends_first plan files handles w ready stage value next state C k r p v H.sent H.phase (knows_old value k r p v C.0 H)) S in
        let end = walk x first w own entries after (SendsOn plan files handles w ready stage value next state C) (sends_others plan files handles w ready stage value next state C) (sends_own plan files handles w ready stage value next state C) (map (sending state) handles) rest start in
        restand (SendsOn plan files handles w ready stage value next state C []) (Holds plan next) rest rest refl (λ k r p ss v D H. sends_last plan files handles w ready stage value next state C same_many one k r p v H) end
    makes value (phases.Change component step) next made rest C (l, b, at, M) S =
        let its : List (MachineAct × Reply) = acts_of (tuned plan files) handles (asking_by step l) in
        let start = restand (Holds plan value) (ChangesStep plan files handles w ready stage value next component step C l b at its) (made ++ rest) (its ++ rest) (ap (λ (ys : List (MachineAct × Reply)). ys ++ rest) M)
        (λ k r p ss v D H. changes_first plan files handles w ready stage value next component step C l b at k r p v H.sent H.phase (knows_old value k r p v C.0 H)) S in
        let end = walk x first w own entries after (ChangesStep plan files handles w ready stage value next component step C l b at) (changes_others plan files handles w ready stage value next component step C l b at)
        (changes_own plan files handles w ready stage value next component step C l b at) its rest start in
        restand (ChangesStep plan files handles w ready stage value next component step C l b at []) (Holds plan next) rest rest refl (λ k r p ss v D H. changes_last plan files handles w ready stage value next component step C l b at k r p ss v D H) end
    makes value phases.Wait next made rest C M S = none value next made rest M C.2 S
    makes value phases.Over next made rest C M S = none value next made rest M C.2 S
    makes value phases.Failed next made rest C M S = none value next made rest M C.1 S

    sees : (value : ConductorValue) (views : List (Option Progress)) (rest : List (MachineAct × Reply)) → length views ≡ length handles → At (Holds plan value) (looks handles views ++ rest) → At (Holds plan (heard value views)) rest
    sees value views rest m S =
        let start = restand (Holds plan value) (LooksOn plan files handles w ready stage same_many value views m (looks handles views)) (looks handles views ++ rest) (looks handles views ++ rest) refl
        (λ k r p ss v D H. looks_first plan files handles w ready stage same_many value views m k r p v H) S in
        let end = walk x first w own entries after (LooksOn plan files handles w ready stage same_many value views m) (looks_others plan files handles w ready stage same_many value views m) (looks_own plan files handles w ready stage same_many value views m) (looks handles views) rest start in
        restand (LooksOn plan files handles w ready stage same_many value views m []) (Holds plan (heard value views)) rest rest refl (λ k r p ss v D H. looks_last plan files handles w ready stage same_many value views m k r p ss v D H) end

    conduct : (mine : List (MachineAct × Reply)) (value : ConductorValue) → IsConducting plan files handles mine value → (rest : List (MachineAct × Reply)) → At (Holds plan (conductors.cast_of plan)) (mine ++ rest) → At (Holds plan value) rest
    conduct _ _ begins rest S = S
    conduct _ _ (round before value views phase next made c m C M) rest S =
        let seen : List (MachineAct × Reply) = looks handles views in
        let apart : ((before ++ seen) ++ made) ++ rest ≡ before ++ (seen ++ (made ++ rest)) = append_assoc (before ++ seen) made rest ∙ append_assoc before seen (made ++ rest) in
        let first_value : ConductorValue = conductors.cast_of plan in
        let known = conduct before value c (seen ++ (made ++ rest)) (restand (Holds plan first_value) (Holds plan first_value) (((before ++ seen) ++ made) ++ rest) (before ++ (seen ++ (made ++ rest))) apart (λ k r p ss v D H. H) S) in
        makes (heard value views) phase next made rest C M (sees value views (made ++ rest) m known)

  -- ---- along all entries

  module _ (alone : RequestAlone own entries) (run : Run w (steps_of entries) after) where
    begun : At (Holds plan (conductors.cast_of plan)) (own_steps own entries)
    begun = record {
      before = [];
      left = entries;
      all = refl;
      mine = refl;
      alone = alone;
      world = w;
      run = run;
      cursor = first;
      history = (refl, refl);
      recent = 0;
      now = opening;
      streams = w.streams;
      faulty = plan_faulty plan files handles w stage 0 ready;
      knows = holds_first plan files handles w ready stage;
    }

    -- a play without components: nothing is asked
    module _ (empty : length plan.parts ≡ 0) where
      no_handles : handles ≡ []
      no_handles = by handles (let m = same_many in omega (arith, m, empty))
        where
          by : (hs : List Handle) → length hs ≡ 0 → hs ≡ []
          by [] e = refl
          by (h ∷ hs) e = absurd (omega (arith, e))

      no_link : (l : ℕ) → l < length plan.joints → ⊥
      no_link l b = let g = (link_is plan files handles w [] first w (record { ready = ready; stage = stage; goes = (refl, refl) }) l b).giver_below in omega (arith, g, empty)

      no_acts : (phase : Phase) (made : List (MachineAct × Reply)) → AreMade plan files handles phase made → made ≡ []
      no_acts (phases.Send state) made M = M ∙ ap (map (sending state)) no_handles
      no_acts (phases.Change component step) made (l, b, at, M) = absurd (no_link l b)
      no_acts phases.Wait made M = M
      no_acts phases.Over made M = M
      no_acts phases.Failed made M = M

      no_looks : (views : List (Option Progress)) → looks handles views ≡ []
      no_looks views = ap (λ (hs : List Handle). looks hs views) no_handles

    module _ (value : ConductorValue) (c : IsConducting plan files handles (own_steps own entries) value) where
      abbrev Known : Type 0
      Known = (j : Cursor) × (s : ℕ) × (q : Play) × (ts : List Stream) × IsFaultHistory x first w (steps_of entries) j after × IsFaulty x j s q ts after × (1 ≤ length plan.parts → Holds plan value j s q after)

      known_some : 1 ≤ length plan.parts → Known
      known_some one =
          let none = sym (append-nil (own_steps own entries)) in
          let first_value : ConductorValue = conductors.cast_of plan in
          let S = conduct one (own_steps own entries) value c [] (restand (Holds plan first_value) (Holds plan first_value) (own_steps own entries) (own_steps own entries ++ []) none (λ k r p ss v D H. H) begun) in
          let E = ends x first w own entries after (λ todo k r p v. Holds plan value k r p v) (λ todo k r p v s q u O H. holds_on plan value k r p v s q u O H) S in
          (E.0, E.1, E.2, E.3, E.4, E.5, λ b. E.6)

      module _ (empty : length plan.parts ≡ 0) where
        no_steps : (mine : List (MachineAct × Reply)) (known : ConductorValue) → IsConducting plan files handles mine known → mine ≡ []
        no_steps _ _ begins = refl
        no_steps _ _ (round before known views phase next made d m C M) =
            let a = no_steps before known d in
            let b = no_looks empty views in
            let e = no_acts empty phase made M in
            λ i. (a i ++ b i) ++ e i

        known_none : Known
        known_none =
            let S : At (λ k r p v. Unit {0}) [] = restand (Holds plan (conductors.cast_of plan)) (λ k r p v. Unit {0}) (own_steps own entries) [] (no_steps (own_steps own entries) value c) (λ k r p ss v D H. tt) begun in
            let E = ends x first w own entries after (λ todo k r p v. Unit {0}) (λ todo k r p v s q u O H. tt) S in
            (E.0, E.1, E.2, E.3, E.4, E.5, λ b. absurd (omega (arith, b, empty)))

      known : Known
      known = elim (cases_lt (length plan.parts) 1) [
        | inl b ↦ known_none (omega (arith, b))
        | inr b ↦ known_some b
      ]

      sent_all : (j : Cursor) → (1 ≤ length plan.parts → length plan.parts ≤ j.sent) → length plan.parts ≤ j.sent
      sent_all j f = elim (cases_lt (length plan.parts) 1) [ inl b ↦ omega (arith, b) | inr b ↦ f b ]

      pub conducted_requests : (cursor : Cursor) × IsPlanHistory plan files handles w (steps_of entries) cursor after × (1 ≤ length plan.parts → cursor.phase ≡ value.sends) × (length plan.parts ≤ cursor.sent)
      conducted_requests =
          let K = known in
          (K.0, record { ready = ready; stage = stage; goes = K.4 }, λ b. (K.6 b).phase, sent_all K.0 (λ b. (K.6 b).sent))

      pub conducted_tunnels : (cursor : Cursor) × (recent : ℕ) × (now : Play) × (streams : List Stream) × IsFaulty x cursor recent now streams after × AreJoined x now
      conducted_tunnels =
          let K = known in (
            K.0,
            K.1,
            K.2,
            K.3,
            K.5,
            elim (cases_lt (length plan.parts) 1) [
              | inl b ↦ λ l d t. absurd (no_link (omega (arith, b)) l d)
              | inr b ↦ elim (K.6 b).knows [
                | inl V ↦ joined_old x K.1 K.2 value V
                | inr T ↦ T.tunnels
              ]
            ],
          )

      pub conducted_over : (next : ConductorValue) → Conducts value phases.Over next → AreAllAt (tuned plan files) Loaded (steps_of entries)
      conducted_over next C = elim (cases_lt (length plan.parts) 1) [
        | inl b ↦ λ place d. absurd (omega (arith, b, d))
        | inr b ↦
            let K = known in
            let D : IsFaulty x K.0 K.1 K.2 K.3 after = K.5 in
            let P = (D.taken).played in
            let V = knows_old b value K.0 K.1 K.2 after C.0 (K.6 b) in
            let O = (old_over x K.1 K.2 (inside (mend K.3 after)) P.play value V next C).0 in
            let told = state_done x K.0 K.1 K.2 (inside (mend K.3 after)) P.play P.follows after.streams O.all 4 (sym (P.follows).phase ∙ O.phase) in
            states_told plan files handles w (steps_of entries) K.0 after (record { ready = ready; stage = stage; goes = K.4 }) Loaded told
      ]

    -- ---- none of its acts is refused

    no_cons : (xs ys : List (MachineAct × Reply)) (y : MachineAct × Reply) → xs ++ y ∷ ys ≡ [] → ⊥
    no_cons [] ys y e = absurd cc
    no_cons (x ∷ xs) ys y e = absurd cc

    module _ (R : IsRefused plan files handles (own_steps own entries)) where
      abbrev refused : List (MachineAct × Reply)
      refused = ((R.expected).0, R.reply) ∷ R.more

      refused_some : (one : 1 ≤ length plan.parts) (phase : Phase) → Conducts (heard R.value R.views) phase R.next → AreMade plan files handles phase (R.made ++ R.expected ∷ R.left) → At (Holds plan (heard R.value R.views)) (R.made ++ refused) → ⊥
      refused_some one (phases.Send state) C M S =
          let value : ConductorValue = heard R.value R.views in
          let start = restand (Holds plan value) (SendsOn plan files handles w ready stage value R.next state C (R.made ++ R.expected ∷ R.left)) (R.made ++ refused) (R.made ++ refused) refl
          (λ k r p ss v D H. subst (λ (ys : List (MachineAct × Reply)). SendsOn plan files handles w ready stage value R.next state C ys k r p v) (sym M) (sends_first plan files handles w ready stage value R.next state C k r p v H.sent H.phase (knows_old one value k r p v C.0 H))) S in
          none_refused x first w own entries after (SendsOn plan files handles w ready stage value R.next state C) (sends_others plan files handles w ready stage value R.next state C) (sends_own plan files handles w ready stage value R.next state C)
          (sends_accept plan files handles w ready stage value R.next state C) R.expected R.left R.reply R.more R.other R.made start
      refused_some one (phases.Change component step) C (l, b, at, M) S =
          let value : ConductorValue = heard R.value R.views in
          let start = restand (Holds plan value) (ChangesStep plan files handles w ready stage value R.next component step C l b at (R.made ++ R.expected ∷ R.left)) (R.made ++ refused) (R.made ++ refused) refl
          (λ k r p ss v D H. subst (λ (ys : List (MachineAct × Reply)). ChangesStep plan files handles w ready stage value R.next component step C l b at ys k r p v) (sym M)
          (changes_first plan files handles w ready stage value R.next component step C l b at k r p v H.sent H.phase (knows_old one value k r p v C.0 H))) S in
          none_refused x first w own entries after (ChangesStep plan files handles w ready stage value R.next component step C l b at) (changes_others plan files handles w ready stage value R.next component step C l b at)
          (changes_own plan files handles w ready stage value R.next component step C l b at) (changes_accept plan files handles w ready stage value R.next component step C l b at) R.expected R.left R.reply R.more R.other R.made start
      refused_some one phases.Wait C M S = no_cons R.made R.left R.expected M
      refused_some one phases.Over C M S = no_cons R.made R.left R.expected M
      refused_some one phases.Failed C M S = no_cons R.made R.left R.expected M

      pub conducted_accepted : ⊥
      conducted_accepted = elim (cases_lt (length plan.parts) 1) [
        | inl b ↦ no_cons R.made R.left R.expected (no_acts (omega (arith, b)) R.phase (R.made ++ R.expected ∷ R.left) R.due)
        | inr b ↦
            let seen : List (MachineAct × Reply) = looks handles R.views in
            let apart : own_steps own entries ≡ R.before ++ (seen ++ (R.made ++ refused)) = R.is ∙ (append_assoc (R.before ++ seen) R.made refused ∙ append_assoc R.before seen (R.made ++ refused)) in
            let first_value : ConductorValue = conductors.cast_of plan in
            let known = conduct b R.before R.value R.conducting (seen ++ (R.made ++ refused)) (restand (Holds plan first_value) (Holds plan first_value) (own_steps own entries) (R.before ++ (seen ++ (R.made ++ refused))) apart (λ k r p ss v D H. H) begun) in
            refused_some b R.phase R.conducts R.due (sees b R.value R.views (R.made ++ refused) R.seen known)
      ]
