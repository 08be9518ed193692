-- The acts of a step of a late source's change, one after the other, while others act.
use Rattle.std.proofs.Common.{◌≡◌, ◌≢◌, ◌⊎◌, inl, inr, ℕ, zero, suc, ◌+◌, ◌<◌, ◌≤◌, true, false, List, [], ◌∷◌, length, slice_get, Option, Some, refl, sym, ◌∙◌, ap, subst, arith}
use Rattle.std.specs.Prelude.{flat_map}
use Rattle.std.proofs.lemmas.Bool.{cases_eq}
use Rattle.omx_types.specs.declared.handle.Handle.{Handle}
use Rattle.il_machine.specs.Acts.{Act as MachineAct, Reply}
use Rattle.il_machine.specs.World.{Stream, World}
use Rattle.conductor.specs.declared.phase.ChangeStep.{ChangeStep}
use Rattle.conductor.specs.declared.phase.ChangeStep.TheVariants as steps
use Rattle.conductor.specs.declared.phase.Phase.TheVariants as phases
use Rattle.conductor.specs.Hearing.{ConductorValue}
use Rattle.conductor.specs.Phases.{Conducts}
use Rattle.play_build_laws.specs.Assembly.{Assembly, component_at as place_at}
use Rattle.play_build_laws.specs.Stages.{IsStage, Joining}
use Rattle.play_forms.specs.Plans.{PlanValue}
use Rattle.play_model.specs.Changes.{Change}
use Rattle.play_model.specs.Play.{Layout, Play}
use Rattle.play_world_laws.specs.Cast.{giver_of, script_place}
use Rattle.play_world_laws.specs.PlayWorlds.{IsPlayWorld, PlayCast}
use Rattle.play_plan_laws.specs.Assemblies.{IsReady, PlayFiles, assembly_of, play_cast_of}
use Rattle.play_result_laws.specs.Asked.{acts_of, change_of, tuned}
use Rattle.play_world_laws.proofs.ChangeEnds.{actor_there, end_inside, one_end}
use Rattle.play_turn_laws.specs.Conducting.{IsChangeOf, step_from, step_to}
use Rattle.read_world_laws.specs.Inside.{inside}
use Rattle.read_world_laws.specs.Mended.{mend}
use Rattle.play_history_laws.specs.Following.{Follows, IsLater, IsLeft, IsTurn}
use Rattle.play_history_laws.specs.Order.{Cursor, IsAsked, IsChangeAct, nothing_asked, one_more}
use Rattle.play_history_laws.proofs.Following.{made_else, made_here}
use Rattle.play_history_laws.proofs.Onward.{later_through}
use Rattle.play_history_laws.specs.Faults.{IsFaultHistory, IsFaulty}
use Rattle.play_history_laws.proofs.Accepting.{accepts, not_declined}
use Rattle.play_history_laws.proofs.FaultAsking.{asked_so}
use Rattle.play_history_laws.specs.Behind.{IsOld}
use Rattle.play_history_laws.proofs.Standing.{old_changes}
use Rattle.play_history_laws.proofs.ViewsKept.{old_changed}
use Rattle.play_history_laws.specs.Askings.{IsPlanHistory, read_of}
use Rattle.play_history_laws.proofs.Answered.{change_is}
use Rattle.play_history_laws.proofs.Askings.{changes_asked, link_is}
use Rattle.play_result_laws.specs.Rounds.{asking_by}
use Rattle.play_history_laws.proofs.AskedInTime.{change_asked}
use Rattle.play_history_laws.proofs.Knowing.{Holds, old_on}
use Rattle.play_history_laws.proofs.Sending.{place_first, place_on}
use Rattle.play_history_laws.proofs.PassWalk.{AcceptsNext, Holding, IsOn, KeepsOthers, KeepsOwn}

-- how many acts of the change are made before a step, and once it is made
abbrev from_act : ChangeStep → ℕ
from_act steps.Disable = 0
from_act steps.Retune = 2
from_act steps.Enable = 6

abbrev to_act : ChangeStep → ℕ
to_act steps.Disable = 2
to_act steps.Retune = 6
to_act steps.Enable = 8

from_is : (step : ChangeStep) → step_from step ≡ from_act step + 2
from_is steps.Disable = refl
from_is steps.Retune = refl
from_is steps.Enable = refl

to_is : (step : ChangeStep) → step_to step ≡ to_act step + 2
to_is steps.Disable = refl
to_is steps.Retune = refl
to_is steps.Enable = refl

to_eight : (step : ChangeStep) → to_act step ≤ 8
to_eight steps.Disable = omega arith
to_eight steps.Retune = omega arith
to_eight steps.Enable = omega arith

never_five : (step : ChangeStep) → from_act step ≡ 5 → ⊥
never_five steps.Disable e = omega (arith, e)
never_five steps.Retune e = omega (arith, e)
never_five steps.Enable e = omega (arith, e)

-- the tunnel is dropped by the first act of a step
never_two : (step : ChangeStep) (n : ℕ) → from_act step < n → n < to_act step → n ≢ 2
never_two steps.Disable n a b e = omega (arith, b, e)
never_two steps.Retune n a b e = omega (arith, a, e)
never_two steps.Enable n a b e = omega (arith, a, e)

left_through : (k m j : Change) → IsLeft k m → IsLeft m j → IsLeft k j
left_through k m j A B = record { few = λ b. B.few (A.few b); more = λ b. let e = A.more b in B.more (omega (arith, b, e)) ∙ e }

module _ (plan : PlanValue) (files : PlayFiles) (handles : List Handle) (w : World) (ready : IsReady plan files) (stage : IsStage (assembly_of plan files) (Joining (length plan.joints)) handles w)
    (value next : ConductorValue) (component : ℕ) (step : ChangeStep) (C : Conducts value (phases.Change component step) next) (l : ℕ) (inside_l : l < length plan.joints) (its_place : place_at (tuned plan files) false l ≡ component) where
  abbrev x : PlayCast
  x = play_cast_of plan

  abbrev net : Layout
  net = (x.cast).layout

  abbrev s : Assembly
  s = tuned plan files

  abbrev todo_of : List (MachineAct × Reply)
  todo_of = acts_of s handles (asking_by step l)

  abbrev change : List (MachineAct × Reply)
  change = flat_map (acts_of s handles) (change_of l)

  -- its acts among those of the change
  listed : (i : ℕ) (y : MachineAct × Reply) → slice_get todo_of i ≡ Some y → slice_get change (from_act step + i) ≡ Some y
  listed = by step
    where
      by : (which : ChangeStep) (i : ℕ) (y : MachineAct × Reply) → slice_get (acts_of s handles (asking_by which l)) i ≡ Some y → slice_get change (from_act which + i) ≡ Some y
      by steps.Disable zero y e = e
      by steps.Disable (suc zero) y e = e
      by steps.Disable (suc (suc i)) y e = absurd cc
      by steps.Retune zero y e = e
      by steps.Retune (suc zero) y e = e
      by steps.Retune (suc (suc zero)) y e = e
      by steps.Retune (suc (suc (suc zero))) y e = e
      by steps.Retune (suc (suc (suc (suc i)))) y e = absurd cc
      by steps.Enable zero y e = e
      by steps.Enable (suc zero) y e = e
      by steps.Enable (suc (suc i)) y e = absurd cc

  many_acts : from_act step + length todo_of ≡ to_act step
  many_acts = by step
    where
      by : (which : ChangeStep) → from_act which + length (acts_of s handles (asking_by which l)) ≡ to_act which
      by steps.Disable = refl
      by steps.Retune = refl
      by steps.Enable = refl

  -- none of its acts was made
  pub record Waits (todo : List (MachineAct × Reply)) (k : Cursor) (r : ℕ) (p : Play) : Type 0 where
    is : todo ≡ todo_of
    sent : length plan.parts ≤ k.sent
    phase : k.phase ≡ value.sends
    old : IsOld x.cast r p value

  -- so many acts of the change were made, from the play in which the step could be made
  pub record Goes (todo : List (MachineAct × Reply)) (k : Cursor) (r : ℕ) (p : Play) : Type 0 where
    number : ℕ
    at : (i : ℕ) (y : MachineAct × Reply) → slice_get todo i ≡ Some y → slice_get change (number + i) ≡ Some y
    all : number + length todo ≡ to_act step
    begun : from_act step < number
    made : k.made l ≡ number
    changing : k.changing ≡ Some l
    sent : length plan.parts ≤ k.sent
    phase : k.phase ≡ next.sends
    was : ℕ
    before : Play
    old : IsOld x.cast was before value
    its : IsChangeOf x.cast before component step next l
    later : IsLater before p
    left : (i : ℕ) → i ≢ l → IsLeft (before.change i) (p.change i)

  abbrev pub ChangesStep : Holding
  ChangesStep todo k r p v = Waits todo k r p ⊎ Goes todo k r p

  pub changes_others : KeepsOthers x (nothing_asked x.cast) w ChangesStep
  changes_others todo k r p v s q u O H = elim H [
    | inl A ↦ inl (record { is = A.is; sent = A.sent; phase = A.phase; old = old_on x k r p s q value O.goes A.old })
    | inr A ↦ inr (record {
      number = A.number;
      at = A.at;
      all = A.all;
      begun = A.begun;
      made = A.made;
      changing = A.changing;
      sent = A.sent;
      phase = A.phase;
      was = A.was;
      before = A.before;
      old = A.old;
      its = A.its;
      later = later_through A.before p q A.later ((O.goes).later refl);
      left = λ i n. left_through ((A.before).change i) (p.change i) (q.change i) (A.left i n) ((O.goes).left i refl);
    })
  ]

  module _ (one : MachineAct × Reply) (todo past : List (MachineAct × Reply)) (k : Cursor) (r : ℕ) (p : Play) (ss : List Stream) (v : World) (H : IsFaultHistory x (nothing_asked x.cast) w past k v) (D : IsFaulty x k r p ss v) where
    -- its first act may be asked, and leads on
    abbrev Asked : Type 0
    Asked = (j : Cursor) × IsAsked x k (read_of v) one.0 j × ((s : ℕ) (q : Play) (u : World) → IsOn x k r p v j s q u → ChangesStep todo j s q u)

    G : IsPlanHistory plan files handles w past k v
    G = record { ready = ready; stage = stage; goes = H }

    abbrev F : Follows x.cast k r p
    F = ((D.taken).played).follows

    abbrev W : IsPlayWorld x r p (inside (mend ss v))
    W = ((D.taken).played).play

    -- a late source gives one link
    same_link : (m : ℕ) → IsChangeOf x.cast p component step next m → l ≡ m
    same_link m B =
        let b = (B.can).below in
        let c : ℕ = giver_of x.cast m in
        let inside_c = end_inside x r p (inside (mend ss v)) W true m b in
        let a = actor_there x r p (inside (mend ss v)) c W inside_c in
        let K = link_is plan files handles w past k v G l inside_l in
        let places : script_place x.cast (giver_of x.cast l) ≡ script_place x.cast c = K.giver ∙ (its_place ∙ B.its_source) in
        let same : giver_of x.cast l ≡ c = (W.cast_is).apart (giver_of x.cast l) c K.giver_below inside_c places in
        (one_end x r p (inside (mend ss v)) W m b (B.can).late c refl a.0 a.1 a.2 true l inside_l same).0

    act_is : (n : ℕ) → slice_get change n ≡ Some one → IsChangeAct x (read_of v) l n one.0
    act_is n e = (changes_asked plan files handles w past k v G l n one inside_l e).0

    begins_own : Waits (one ∷ todo) k r p → Asked
    begins_own A =
        let E = old_changes x r p (inside (mend ss v)) W value A.old next component step C in
        let same = same_link E.0 E.1 in
        let B : IsChangeOf x.cast p component step next l = subst (λ (m : ℕ). IsChangeOf x.cast p component step next m) (sym same) E.1 in
        let list : slice_get todo_of 0 ≡ Some one = ap (λ (ys : List (MachineAct × Reply)). slice_get ys 0) (sym A.is) in
        let first = place_first change (from_act step) one (listed 0 one list) in
        let made : k.made l ≡ from_act step = by_made B in
        let j : Cursor = one_more l k in
        let many = many_acts in
        let sizes = ap length A.is in (
          j,
          change_asked x k r p (inside (mend ss v)) W F v.streams l B.can A.sent one.0 (subst (λ (n : ℕ). IsChangeAct x (read_of v) l n one.0) (sym made) (act_is (from_act step) first)),
          λ s q u O. inr (record {
            number = from_act step + 1;
            at = λ i y e. place_on change (from_act step) i y (listed (suc i) y (ap (λ (ys : List (MachineAct × Reply)). slice_get ys (suc i)) (sym A.is) ∙ e));
            all = omega (arith, many, sizes);
            begun = omega arith;
            made = made_here k l ∙ ap (λ (n : ℕ). n + 1) made;
            changing = refl;
            sent = A.sent;
            phase = A.phase ∙ sym (ap (λ (y : ConductorValue). y.sends) (C.1).goes_on);
            was = r;
            before = p;
            old = A.old;
            its = B;
            later = (O.goes).later refl;
            left = λ i n. (O.goes).left i (made_else k l i n);
          }),
        )
      where
        by_made : IsChangeOf x.cast p component step next l → k.made l ≡ from_act step
        by_made B =
            let e = B.from in
            let f = from_is step in
            elim (cases_eq (k.made l) 0) [
              | inl z ↦ let few = F.few l (B.can).below (B.can).late z in omega (arith, e, f, few, z)
              | inr n ↦ let m = F.some l (B.can).below (B.can).late (omega (arith, n)) in omega (arith, e, f, m)
            ]

    goes_own : Goes (one ∷ todo) k r p → Asked
    goes_own A =
        let n : ℕ = A.number in
        let all : n + suc (length todo) ≡ to_act step = A.all in
        let eight = to_eight step in
        let made = A.made in
        let first = place_first change n one (A.at 0 one refl) in (
          one_more l k,
          inr (inr (inr (record {
            link = l;
            its = A.changing;
            more = omega (arith, made, all, eight);
            disabled = λ two. absurd (never_two step n A.begun (omega (arith, all)) (sym made ∙ two));
            its_act = subst (λ (m : ℕ). IsChangeAct x (read_of v) l m one.0) (sym made) (act_is n first);
            after = refl;
          }))),
          λ s q u O. inr (record {
            number = n + 1;
            at = λ i y e. place_on change n i y (A.at (suc i) y e);
            all = omega (arith, all);
            begun = (let b = A.begun in omega (arith, b));
            made = made_here k l ∙ ap (λ (m : ℕ). m + 1) made;
            changing = refl;
            sent = A.sent;
            phase = A.phase;
            was = A.was;
            before = A.before;
            old = A.old;
            its = A.its;
            later = later_through A.before p q A.later ((O.goes).later refl);
            left = λ i m. left_through ((A.before).change i) (p.change i) (q.change i) (A.left i m) ((O.goes).left i (made_else k l i m));
          }),
        )

  asked : (one : MachineAct × Reply) (todo past : List (MachineAct × Reply)) (k : Cursor) (r : ℕ) (p : Play) (ss : List Stream) (v : World) (H : IsFaultHistory x (nothing_asked x.cast) w past k v) (D : IsFaulty x k r p ss v) → ChangesStep (one ∷ todo) k r p v
      → Asked one todo past k r p ss v H D
  asked one todo past k r p ss v H D A = elim A [
    | inl B ↦ begins_own one todo past k r p ss v H D B
    | inr B ↦ goes_own one todo past k r p ss v H D B
  ]

  pub changes_own : KeepsOwn x (nothing_asked x.cast) w ChangesStep
  changes_own one todo past k r p ss v u H D m t A =
      let B = asked one todo past k r p ss v H D A in
      (B.0, inr B.1, λ i q ts E O. B.2 i q u O)

  -- which of the acts of the change it is, and that it may be asked
  its_act : (one : MachineAct × Reply) (todo past : List (MachineAct × Reply)) (k : Cursor) (r : ℕ) (p : Play) (ss : List Stream) (v : World) (H : IsFaultHistory x (nothing_asked x.cast) w past k v) (D : IsFaulty x k r p ss v) → ChangesStep (one ∷ todo) k r p v
      → (n : ℕ) × (slice_get change n ≡ Some one) × IsChangeAct x (read_of v) l n one.0 × (n ≡ 5 → (k.changing ≡ Some l) × (k.made l ≡ 5))
  its_act one todo past k r p ss v H D A = elim A [
    | inl B ↦
        let list : slice_get todo_of 0 ≡ Some one = ap (λ (ys : List (MachineAct × Reply)). slice_get ys 0) (sym B.is) in
        let first = place_first change (from_act step) one (listed 0 one list) in
        (from_act step, first, act_is one todo past k r p ss v H D (from_act step) first, λ e. absurd (never_five step e))
    | inr B ↦
        let first = place_first change B.number one (B.at 0 one refl) in
        (B.number, first, act_is one todo past k r p ss v H D B.number first, λ e. (B.changing, B.made ∙ e))
  ]

  pub changes_accept : AcceptsNext x (nothing_asked x.cast) w ChangesStep
  changes_accept one todo past k r p ss v u reply H D t A =
      let B = asked one todo past k r p ss v H D A in
      let done = accepts x k r p ss v D one.0 reply u B.0 t (asked_so x (read_of v) ss k one.0 B.0 B.1) in
      let G : IsPlanHistory plan files handles w past k v = record { ready = ready; stage = stage; goes = H } in
      let is = its_act one todo past k r p ss v H D A in
      let listed : slice_get change is.0 ≡ Some (one.0, reply) = change_is plan files handles w past k v G l is.0 (one.0, reply) u inside_l is.3 is.2 t (not_declined reply done) in
      let both : Some (one.0, reply) ≡ Some one = sym listed ∙ is.1 in
      let same : (one.0, reply) ≡ one = cc in
      ap (λ (y : MachineAct × Reply). y.1) same

  pub changes_first : (k : Cursor) (r : ℕ) (p : Play) (v : World) → length plan.parts ≤ k.sent → k.phase ≡ value.sends → IsOld x.cast r p value → ChangesStep todo_of k r p v
  changes_first k r p v b e V = inl (record { is = refl; sent = b; phase = e; old = V })

  some_acts : [] ≡ todo_of → ⊥
  some_acts = by step
    where
      by : (which : ChangeStep) → [] ≡ acts_of s handles (asking_by which l) → ⊥
      by steps.Disable e = absurd cc
      by steps.Retune e = absurd cc
      by steps.Enable e = absurd cc

  -- the step is carried out
  pub changes_last : (k : Cursor) (r : ℕ) (p : Play) (ss : List Stream) (v : World) → IsFaulty x k r p ss v → ChangesStep [] k r p v → Holds plan next k r p v
  changes_last k r p ss v D H = elim H [
    | inl A ↦ absurd (some_acts A.is)
    | inr A ↦
        let F = ((D.taken).played).follows in
        let T : IsTurn x.cast k r p (Some l) = subst (λ (o : Option ℕ). IsTurn x.cast k r p o) A.changing F.turn in
        let m = F.some l T.2 T.3 T.4 in
        let all = A.all in
        let made = A.made in
        let to = to_is step in
        let there : (p.change l).step ≡ step_to step = omega (arith, m, all, made, to) in
        record {
          sent = A.sent;
          phase = A.phase;
          knows = inl (subst (λ (n : ℕ). IsOld x.cast n p next) (sym T.1) (old_changed x.cast A.was A.before p value next component step l A.old C A.its A.later A.left there));
        }
  ]
