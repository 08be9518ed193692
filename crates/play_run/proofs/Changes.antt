-- A step of a link's change that the conductor answers is asked in time.
use Rattle.std.proofs.Common.{◌≡◌, ◌≢◌, ◌⊎◌, inl, inr, ℕ, ◌+◌, ◌<◌, ◌≤◌, Bool, true, false, ◌==◌, nat_lt, List, [], ◌∷◌, ◌++◌, drop, take, length, set, slice_get, Some, refl, sym, ◌∙◌, ap, subst, append-nil, append_assoc, length-append, eq-eqb, eqb-true, lt-ltb, ne_eqb, arith}
use Rattle.std.specs.Prelude.{cond, count_by, flat_map, is_some, if◌then◌else◌}
use Rattle.std.proofs.lemmas.Bool.{cases_eq}
use Rattle.std.proofs.lemmas.List.{length-map, take_at}
use Rattle.std.proofs.lemmas.List.Concat.{flat_map-append}
use Rattle.std.proofs.lemmas.List.Sums.{sum_by_push}
use Rattle.il_machine.specs.Acts.{Act as MachineAct, Reply}
use Rattle.il_machine.specs.World.{Component}
use Rattle.machine_laws.proofs.Accepting.{both_of}
use Rattle.machine_laws.proofs.Every.{at_set}
use Rattle.omx_types.specs.declared.command.Completion.TheVariants as completions
use Rattle.omx_types.specs.declared.state.State.TheVariants.{Executing}
use Rattle.conductor.specs.declared.phase.ChangeStep.{ChangeStep}
use Rattle.conductor.specs.declared.phase.ChangeStep.TheVariants.{Disable, Retune, Enable}
use Rattle.conductor.specs.declared.phase.LateLink.{LateLink}
use Rattle.conductor.specs.declared.phase.Phase.TheVariants as phases
use Rattle.conductor.specs.Hearing.{ConductorValue}
use Rattle.conductor.specs.Phases.{Conducts, IsChange, all_told, is_changed, one_step_more}
use Rattle.play_build_laws.specs.Assembly.{Assembly}
use Rattle.play_plan_laws.specs.Casting.{joint_of}
use Rattle.play_plan_laws.proofs.Links.{two_ways}
use Rattle.play_model.specs.Changes.{port_at}
use Rattle.play_model.specs.Play.{Play}
use Rattle.play_world_laws.specs.Cast.{Cast, giver_of, links_of, script_place}
use Rattle.play_turn_laws.specs.Conducting.{IsCarriedOut, IsChangeOf, IsLateAt, IsPlayConductor, IsLateOf, step_from}
use Rattle.play_turn_laws.proofs.Hearing.{one_link}
use Rattle.play_log.specs.Entries.{steps_of}
use Rattle.play_result_laws.specs.Asked.{Asking, Disabling, Enabling, HasCause, IsDone, Retuning, ToExecuting, ToIdle, acts_of as asked_acts, change_of, told_by, tuned}
use Rattle.play_graph.specs.declared.link_end.End.TheVariants.{Output}
use Rattle.play_result_laws.proofs.ListFronts.{last_is}
use Rattle.play_run.specs.Asking.{AreChanges, Asks, IsAsking, answered, asking_of, handles_of}
use Rattle.play_run.specs.Playing.{IsPlaying, PlayingValue, cast, layout_of}
use Rattle.play_run.proofs.Asked.{carried_once, counted, last_or}
use Rattle.play_run.proofs.Ends.{end_place, end_there}
use Rattle.play_run.proofs.Heard.{settings_at}
use Rattle.play_run.proofs.Timely.{asking_begins}
use Rattle.play_run.proofs.Timing.{both_done, changes_done, rest_none}

-- ---- steps

-- how many steps were answered before
abbrev before : ChangeStep → ℕ
before Disable = 0
before Retune = 1
before Enable = 2

carried_before : (step : ChangeStep) → IsCarriedOut (before step) (step_from step)
carried_before Disable = omega arith
carried_before Retune = refl
carried_before Enable = refl

-- ---- lists

-- the same behind both
cancelled : (xs ys zs : List Asking) → xs ++ zs ≡ ys ++ zs → xs ≡ ys
cancelled xs ys zs e =
    let a = ap length e in
    let b = length-append xs zs in
    let c = length-append ys zs in
    let n : length ys ≡ length xs = omega (arith, a, b, c) in
    sym (take_at xs zs (length xs) refl) ∙ (ap (take (length xs)) e ∙ take_at ys zs (length xs) n)

count_push : (links : List ℕ) (l k : ℕ) → count_by (λ (j : ℕ). j == k) (links ++ l ∷ []) ≡ count_by (λ (j : ℕ). j == k) links + cond (l == k) 1 0
count_push links l k = sum_by_push (λ (j : ℕ). cond (j == k) 1 0) links l

above_zero : (n : ℕ) → 1 ≤ n → ◌≡◌ {A = ℕ} (if nat_lt 0 n then 1 else 0) 1
above_zero n b = let t : nat_lt 0 n ≡ true = lt-ltb 0 n (omega (arith, b)) in rw t refl

half_done : (n : ℕ) (late : LateLink) → late.steps ≡ n → n ≢ 3 → is_changed late ≡ false
half_done n late e d = let z : (late.steps == 3) ≡ false = ne_eqb late.steps 3 (λ q. d (sym e ∙ q)) in rw z refl

answered_two : (n : ℕ) (changes : List Asking) (a : Asking) → n ≡ 2 → answered n changes ++ a ∷ [] ≡ answered n (changes ++ a ∷ [])
answered_two n changes a e = rw e refl

module _ {S K : Type 0} (x : PlayingValue S K) (p : Play) (Y : IsPlaying x p) (value next : ConductorValue) (component : ℕ) (step : ChangeStep) (l : ℕ) where
  abbrev s : Assembly
  s = tuned x.plan Y.standing.files

  abbrev steps : List (MachineAct × Reply)
  steps = steps_of (Y.standing.recorded).history

  abbrev y : Cast
  y = cast x.plan

  module _ (A : Asks x.plan Y.standing.files Y.standing.opening Y.standing.recent value [] steps) (V : IsPlayConductor (cast x.plan) Y.standing.recent p value)
      (H : Conducts value (phases.Change component step) next) (D : IsChangeOf (cast x.plan) p component step next l) where
    I : IsChange value component step next
    I = H.1

    -- what is known of the link
    record IsOfLink : Type 0 where
      of_link : IsLateOf y l I.late
      its_at : IsLateAt y Y.standing.recent p l I.late
      count : (I.late).steps ≡ before step

    its : IsOfLink
    its =
        let e = ((V.conducting).lates).each I.number I.late (I.due).there in
        let M = (e.1).of_link in
        let same : (I.late).source ≡ (D.known).source = sym I.its_source ∙ (D.its_source ∙ sym (D.of_link).source) in
        let is : e.0 ≡ l = one_link y e.0 l I.late D.known ((Y.standing.conducted).play).cast_is M D.of_link same in
        let O = subst (λ (k : ℕ). IsLateOf y k I.late) is M in
        record {
          of_link = O;
          its_at = subst (λ (k : ℕ). IsLateAt y Y.standing.recent p k I.late) is e.1;
          count = carried_once (I.late).steps (before step) (step_from step) (subst (λ (acts : ℕ). IsCarriedOut (I.late).steps acts) D.from (V.carried I.number l I.late (I.due).there O)) (carried_before step);
        }

    sends_two : value.sends ≡ 2
    sends_two = eqb-true value.sends 2 (both_of (value.sends == 2) (all_told Executing value.told) (I.due).now).0

    -- an entry of another place is of another link
    else_link : (i k : ℕ) (entry : LateLink) → i ≢ I.number → slice_get value.lates i ≡ Some entry → IsLateOf y k entry → k ≢ l
    else_link i k entry n e O q =
        let same : entry.source ≡ (I.late).source = O.source ∙ (ap (λ (m : ℕ). script_place y (giver_of y m)) q ∙ sym (its.of_link).source) in
        elim (two_ways i I.number) [
          | inl b ↦ let r = ((V.conducting).lates).rising i I.number entry I.late b e (I.due).there in absurd (omega arith)
          | inr h ↦ elim h [
            | inl z ↦ absurd (n z)
            | inr b ↦ let r = ((V.conducting).lates).rising I.number i I.late entry b (I.due).there e in absurd (omega arith)
          ]
        ]

    -- what is known of the links then
    record IsKnown (i k : ℕ) (entry : LateLink) : Type 0 where
      which : ((k ≡ l) × (entry.steps ≡ before step + 1)) ⊎ ((k ≢ l) × (slice_get value.lates i ≡ Some entry))

    known : (i k : ℕ) (entry : LateLink) → slice_get (set value.lates I.number (one_step_more I.late)) i ≡ Some entry → IsLateOf y k entry → IsKnown i k entry
    known i k entry e O = elim (at_set value.lates I.number i (one_step_more I.late) entry e) [
      | inl c ↦
          let source : entry.source ≡ (I.late).source = ap (λ (z : LateLink). z.source) c.1 in
          let is = one_link y k l entry I.late ((Y.standing.conducted).play).cast_is O its.of_link source in
          let m = ap (λ (z : LateLink). z.steps) c.1 in
          let b = its.count in
          record { which = inl (is, omega (arith, m, b)) }
      | inr c ↦ record { which = inr (else_link i k entry c.0 c.1 O, c.1) }
    ]

    -- ---- the first step: no link is half changed

    abbrev C : AreChanges y Y.standing.recent value.lates A.changes
    C = A.are

    first_changes : step ≡ Disable → C.rest ≡ [] → AreChanges y l (set value.lates I.number (one_step_more I.late)) (A.changes ++ Disabling l ∷ [])
    first_changes is none = record {
      links = C.links ++ l ∷ [];
      rest = Retuning l ∷ Enabling l ∷ [];
      begun = λ i k entry e O. by_which i k entry O (known i k entry e O).which;
      only = only;
      parts = append_assoc A.changes (Disabling l ∷ []) (Retuning l ∷ Enabling l ∷ []) ∙ (ap (λ (cs : List Asking). cs ++ change_of l) whole ∙ sym (flat_map-append change_of C.links (l ∷ [])));
      last = λ front k i entry f e O. by_last k i entry (last_is C.links front l k f) (known i k entry e O).which;
    }
      where
        zero_steps : (I.late).steps ≡ 0
        zero_steps = its.count ∙ ap before is

        whole : A.changes ≡ flat_map change_of C.links
        whole = sym (append-nil A.changes) ∙ (ap (λ (t : List Asking). A.changes ++ t) (sym none) ∙ C.parts)

        no_count : count_by (λ (j : ℕ). j == l) C.links ≡ 0
        no_count = C.begun I.number l I.late (I.due).there its.of_link ∙ ap (λ (n : ℕ). if nat_lt 0 n then 1 else 0) zero_steps

        by_which : (i k : ℕ) (entry : LateLink) → IsLateOf y k entry → ((k ≡ l) × (entry.steps ≡ before step + 1)) ⊎ ((k ≢ l) × (slice_get value.lates i ≡ Some entry))
            → count_by (λ (j : ℕ). j == k) (C.links ++ l ∷ []) ≡ (if nat_lt 0 entry.steps then 1 else 0)
        by_which i k entry O (inl c) =
            let t = count_push C.links l l in
            let u : ◌≡◌ {A = ℕ} (cond (l == l) 1 0) 1 = ap (λ (b : Bool). cond b 1 0) (eq-eqb l l refl) in
            let n = no_count in
            let one : count_by (λ (j : ℕ). j == l) (C.links ++ l ∷ []) ≡ 1 = omega (arith, t, u, n) in
            let m = c.1 in
            ap (λ (q : ℕ). count_by (λ (j : ℕ). j == q) (C.links ++ l ∷ [])) c.0 ∙ (one ∙ sym (above_zero entry.steps (omega (arith, m))))
        by_which i k entry O (inr c) =
            let t = count_push C.links l k in
            let u : ◌≡◌ {A = ℕ} (cond (l == k) 1 0) 0 = ap (λ (b : Bool). cond b 1 0) (ne_eqb l k (λ q. c.0 (sym q))) in
            let n = C.begun i k entry c.1 O in
            omega (arith, t, u, n)

        only : (k : ℕ) → 1 ≤ count_by (λ (j : ℕ). j == k) (C.links ++ l ∷ []) → (k < links_of y) × ((layout_of x.plan).is_late k ≡ true)
        only k b = elim (cases_eq k l) [
          | inl q ↦ subst (λ (n : ℕ). (n < links_of y) × ((layout_of x.plan).is_late n ≡ true)) (sym q) ((its.of_link).below, (its.of_link).late)
          | inr q ↦
              let t = count_push C.links l k in
              let u : ◌≡◌ {A = ℕ} (cond (l == k) 1 0) 0 = ap (λ (b : Bool). cond b 1 0) (ne_eqb l k (λ z. q (sym z))) in
              C.only k (omega (arith, t, u, b))
        ]

        by_last : (k i : ℕ) (entry : LateLink) → k ≡ l → ((k ≡ l) × (entry.steps ≡ before step + 1)) ⊎ ((k ≢ l) × (slice_get value.lates i ≡ Some entry))
            → (k ≡ l) × (Retuning l ∷ Enabling l ∷ [] ≡ drop entry.steps (change_of k))
        by_last k i entry q (inr c) = absurd (c.0 q)
        by_last k i entry q (inl c) =
            let m : entry.steps ≡ 1 = c.1 ∙ ap (λ (z : ChangeStep). before z + 1) is in
            (q, sym ((λ i. drop (m i) (change_of (q i)))))

    -- ---- a further step: the link is the last of those that were begun

    record IsLast : Type 0 where
      front : List ℕ
      links : C.links ≡ front ++ l ∷ []
      recent : Y.standing.recent ≡ l
      rest : C.rest ≡ drop (before step) (change_of l)

    is_last : 1 ≤ before step → before step ≢ 3 → IsLast
    is_last b d = elim (last_or C.links) [
      | inl n ↦
          let m = C.begun I.number l I.late (I.due).there its.of_link in
          let k = its.count in
          let one = above_zero (I.late).steps (omega (arith, b, k)) in
          let none : count_by (λ (j : ℕ). j == l) C.links ≡ 0 = ap (λ (ls : List ℕ). count_by (λ (j : ℕ). j == l) ls) n in
          absurd (omega (arith, m, one, none))
      | inr z ↦
          let k = its.count in
          let latest : l ≡ Y.standing.recent = (its.its_at).latest (omega (arith, b, k)) (half_done (before step) I.late k d) in
          let many = subst (λ (ls : List ℕ). 1 ≤ count_by (λ (j : ℕ). j == z.1) ls) (sym z.2) (counted z.0 z.1) in
          let o = C.only z.1 many in
          let r = ((V.conducting).lates).some z.1 o.0 o.1 in
          let is : z.1 ≡ l = (C.last z.0 z.1 r.0 r.1 z.2 r.2 (r.3).of_link).0 ∙ sym latest in
          let links = z.2 ∙ ap (λ (n : ℕ). z.0 ++ n ∷ []) is in
          record { front = z.0; links = links; recent = sym latest; rest = (C.last z.0 l I.number I.late links (I.due).there its.of_link).1 ∙ ap (λ (n : ℕ). drop n (change_of l)) k }
    ]

    -- the last of its askings is the one behind this front; the next one is asked now
    further : (L : IsLast) (a : Asking) (rest : List Asking) → 1 ≤ before step → C.rest ≡ a ∷ rest → rest ≡ drop (before step + 1) (change_of l) → AreChanges y l (set value.lates I.number (one_step_more I.late)) (A.changes ++ a ∷ [])
    further L a rest b is more = record {
      links = C.links;
      rest = rest;
      begun = λ i k entry e O. by_which i k entry O (known i k entry e O).which;
      only = C.only;
      parts = append_assoc A.changes (a ∷ []) rest ∙ (ap (λ (t : List Asking). A.changes ++ t) (sym is) ∙ C.parts);
      last = λ front k i entry f e O. by_last k i entry (last_is L.front front l k (sym L.links ∙ f)) (known i k entry e O).which;
    }
      where
        by_which : (i k : ℕ) (entry : LateLink) → IsLateOf y k entry → ((k ≡ l) × (entry.steps ≡ before step + 1)) ⊎ ((k ≢ l) × (slice_get value.lates i ≡ Some entry))
            → count_by (λ (j : ℕ). j == k) C.links ≡ (if nat_lt 0 entry.steps then 1 else 0)
        by_which i k entry O (inl c) =
            let m = c.1 in
            let q = its.count in
            ap (λ (q : ℕ). count_by (λ (j : ℕ). j == q) C.links) c.0
            ∙ (C.begun I.number l I.late (I.due).there its.of_link ∙ (above_zero (I.late).steps (omega (arith, b, q)) ∙ sym (above_zero entry.steps (omega (arith, m)))))
        by_which i k entry O (inr c) = C.begun i k entry c.1 O

        by_last : (k i : ℕ) (entry : LateLink) → k ≡ l → ((k ≡ l) × (entry.steps ≡ before step + 1)) ⊎ ((k ≢ l) × (slice_get value.lates i ≡ Some entry)) → (k ≡ l) × (rest ≡ drop entry.steps (change_of k))
        by_last k i entry q (inr c) = absurd (c.0 q)
        by_last k i entry q (inl c) = let m = c.1 in (q, more ∙ sym ((λ i. drop (m i) (change_of (q i)))))

    -- ---- the asking begins

    some_component : 1 ≤ length (handles_of Y.standing.opening)
    some_component =
        let b = end_there x.plan l (joint_of x.plan l).giver Output (joint_of x.plan l) Y.standing.valid (its.of_link).below refl refl in
        let m = length-map Y.standing.opening.components (λ (c : Component). c.handle) in
        let n = (Y.standing.begins).opens.1.built.many in
        omega (arith, b, m, n)

    with_changes : AreChanges y l (set value.lates I.number (one_step_more I.late)) (A.changes ++ asking_of step l ∷ []) → ((one : Asking) (front : List Asking) → ToIdle ∷ ToExecuting ∷ A.changes ≡ front ++ one ∷ [] → IsDone s one steps × HasCause s (asking_of step l) steps)
        → Asks x.plan Y.standing.files Y.standing.opening l next (asked_acts s (handles_of Y.standing.opening) (asking_of step l)) steps
    with_changes R T =
        let two = sends_two in
        let list : answered value.sends A.changes ≡ ToIdle ∷ ToExecuting ∷ A.changes = ap (λ (n : ℕ). answered n A.changes) two in
        let G = asking_begins s (handles_of Y.standing.opening) (answered value.sends A.changes) (asking_of step l) steps (λ m. some_component) (λ one front f. T one front (sym list ∙ f)) A.asking in
        subst (λ (v : ConductorValue). Asks x.plan Y.standing.files Y.standing.opening l v (asked_acts s (handles_of Y.standing.opening) (asking_of step l)) steps) (sym I.goes_on) (record {
          changes = A.changes ++ asking_of step l ∷ [];
          are = R;
          early = λ b. absurd (omega (arith, b, two));
          asking = subst (λ (ls : List Asking). IsAsking s (handles_of Y.standing.opening) ls (asked_acts s (handles_of Y.standing.opening) (asking_of step l)) steps) (answered_two value.sends A.changes (asking_of step l) two) G;
        })

-- each step by itself
module _ {S K : Type 0} (x : PlayingValue S K) (p : Play) (Y : IsPlaying x p) (value next : ConductorValue) (component l : ℕ) where
  abbrev its_steps : List (MachineAct × Reply)
  its_steps = steps_of (Y.standing.recorded).history

  pub change_begins : (step : ChangeStep) (A : Asks x.plan Y.standing.files Y.standing.opening Y.standing.recent value [] its_steps) → IsPlayConductor (cast x.plan) Y.standing.recent p value → Conducts value (phases.Change component step) next
      → IsChangeOf (cast x.plan) p component step next l → Asks x.plan Y.standing.files Y.standing.opening l next (asked_acts (tuned x.plan Y.standing.files) (handles_of Y.standing.opening) (asking_of step l)) its_steps
  change_begins Disable A V H D =
      let N = (D.can).next D.from in
      let done = N.unbroken in
      let O = (its x p Y value next component Disable l A V H D).of_link in
      with_changes x p Y value next component Disable l A V H D
      (first_changes x p Y value next component Disable l A V H D refl (rest_none x p Y value A V done))
      (λ one front f. (
        changes_done x p Y value A V done N.phase N.all one front f,
        subst (λ (place : ℕ). is_some (told_by place its_steps).settings ≡ true) (end_place x.plan l Output Y.standing.valid O.below) (settings_at x p Y.standing l O.below O.late (D.can).told),
      ))
  change_begins Retune A V H D =
      let L = is_last x p Y value next component Retune l A V H D (omega arith) (λ e. absurd (omega (arith, e))) in
      let O = (its x p Y value next component Retune l A V H D).of_link in
      let M = (D.can).disabled D.from in
      with_changes x p Y value next component Retune l A V H D
      (further x p Y value next component Retune l A V H D L (Retuning l) (Enabling l ∷ []) (omega arith) L.rest refl)
      (λ one front f.
      let parts : A.changes ++ Retuning l ∷ Enabling l ∷ [] ≡ (flat_map change_of L.front ++ Disabling l ∷ []) ++ Retuning l ∷ Enabling l ∷ [] =
      ap (λ (t : List Asking). A.changes ++ t) (sym L.rest) ∙ ((A.are).parts ∙ (ap (λ (ls : List ℕ). flat_map change_of ls) L.links ∙ (flat_map-append change_of L.front (l ∷ []) ∙ sym (append_assoc (flat_map change_of L.front) (Disabling l ∷ []) (Retuning l ∷ Enabling l ∷ []))))) in
      let whole = cancelled A.changes (flat_map change_of L.front ++ Disabling l ∷ []) (Retuning l ∷ Enabling l ∷ []) parts in
      let is = last_is (ToIdle ∷ ToExecuting ∷ flat_map change_of L.front) front (Disabling l) one (sym (ap (λ (cs : List Asking). ToIdle ∷ ToExecuting ∷ cs) whole) ∙ f) in
      (subst (λ (z : Asking). IsDone (tuned x.plan Y.standing.files) z its_steps) (sym is) (both_done x p Y l 4 (λ port. completions.Disable port) L.recent O.below O.late (at_four M) (λ port. refl)), tt))
    where
      at_four : ((p.change l).output ≡ 4) × ((p.change l).input ≡ 4) → (output : Bool) → port_at output (p.change l) ≡ 4
      at_four M true = M.0
      at_four M false = M.1
  change_begins Enable A V H D =
      let L = is_last x p Y value next component Enable l A V H D (omega arith) (λ e. absurd (omega (arith, e))) in
      with_changes x p Y value next component Enable l A V H D
      (further x p Y value next component Enable l A V H D L (Enabling l) [] (omega arith) L.rest refl)
      (λ one front f.
      let parts : A.changes ++ Enabling l ∷ [] ≡ (flat_map change_of L.front ++ Disabling l ∷ Retuning l ∷ []) ++ Enabling l ∷ [] =
      ap (λ (t : List Asking). A.changes ++ t) (sym L.rest) ∙ ((A.are).parts ∙ (ap (λ (ls : List ℕ). flat_map change_of ls) L.links ∙ (flat_map-append change_of L.front (l ∷ []) ∙ sym (append_assoc (flat_map change_of L.front) (Disabling l ∷ Retuning l ∷ []) (Enabling l ∷ []))))) in
      let whole = cancelled A.changes (flat_map change_of L.front ++ Disabling l ∷ Retuning l ∷ []) (Enabling l ∷ []) parts in
      let is = last_is (ToIdle ∷ ToExecuting ∷ (flat_map change_of L.front ++ Disabling l ∷ [])) front (Retuning l) one
      (ap (λ (cs : List Asking). ToIdle ∷ ToExecuting ∷ cs) (append_assoc (flat_map change_of L.front) (Disabling l ∷ []) (Retuning l ∷ [])) ∙ (sym (ap (λ (cs : List Asking). ToIdle ∷ ToExecuting ∷ cs) whole) ∙ f)) in
      (subst (λ (z : Asking). IsDone (tuned x.plan Y.standing.files) z its_steps) (sym is) tt, tt))
