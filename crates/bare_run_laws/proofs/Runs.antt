-- A step of a play's act in a world, in its bare form, and back; a run of them; and the same step in another world of that form.
use Rattle.std.proofs.Common.{◌≡◌, ◌≢◌, ◌⊎◌, inl, inr, ℕ, zero, suc, List, [], ◌∷◌, slice_get, Some, refl, sym, ◌∙◌, ap, subst}
use Rattle.std.proofs.lemmas.Bool.{cases_eq}
use Rattle.std.specs.Prelude.{Err, Ok, map}
use Rattle.omx_types.specs.declared.handle.Handle.{Handle}
use Rattle.il_machine.specs.declared.answer.Acted.TheVariants.{Did}
use Rattle.il_machine.specs.Acts.{Act, Reply}
use Rattle.il_machine.specs.Acts as acts
use Rattle.il_machine.specs.Notes.{TakenEvent, TookNote}
use Rattle.il_machine.specs.Run.{Meets, Run, Step}
use Rattle.il_machine.specs.Sound.{Sound}
use Rattle.il_machine.specs.World.{Component, World, number_of}
use Rattle.machine_laws.proofs.Steps.{sound_step}
use Rattle.bare_run_laws.specs.Bare.{IsApart, IsKnown, Returns, bare, bare_handle}
use Rattle.bare_run_laws.specs.Runs.{CanFollow, IsPlayAct, PlayRun, bare_act, bare_step}
use Rattle.bare_run_laws.proofs.Acts.{back_bare, back_refused, claim_bare, over_bare, over_refused, release_bare, release_refused, send_bare, supply_bare, supply_refused}
use Rattle.bare_run_laws.proofs.Finishing.{finish_bare}
use Rattle.bare_run_laws.proofs.Meeting.{meets_back, meets_bare, sound_apart}
use Rattle.bare_run_laws.proofs.More.{drop_bare, run_bare, set_bare, setup_bare}
use Rattle.bare_run_laws.proofs.Returning.{back_back, back_refused_back, claim_back, drop_back, end_back, finish_back, over_back, over_refused_back, release_back, release_refused_back, run_back, send_back, set_back, setup_back, supply_back, supply_refused_back, take_back}
use Rattle.bare_run_laws.proofs.Telling.{end_bare, take_bare}

-- ---- one step

pub one_goes : (w : World) (a : Act) (r : Reply) (v : World) → Sound w → IsPlayAct w a r → Step w a r v → Step (bare w) (bare_act a) r (bare v)
one_goes w (acts.SetParameter h key value) (acts.Plain result) v S P s = set_bare w h key value result v P s
one_goes w (acts.SetupTunnel output input) (acts.Joined result) v S P s = setup_bare w output input result v (sound_apart w S) P.0 P.1 s
one_goes w (acts.DropTunnel output input) (acts.Plain result) v S P s = drop_bare w output input result v P.0 P.1 s
one_goes w (acts.SendCommand h command) (acts.Plain result) v S P s = send_bare w h command result v P.0 P.1 s
one_goes w (acts.RunCommand h) (acts.Acted (Ok Did)) v S P s = run_bare w h v P s
one_goes w (acts.TakeNote h) (acts.Took (Ok (TookNote (TakenEvent event)))) v S P s = take_bare w h event v P s
one_goes w (acts.EndNote h progress) acts.Ended v S P s = end_bare w h v P s
one_goes w (acts.Supply h port) (acts.Supplied (Ok Did)) v S P s = supply_bare w h port v P s
one_goes w (acts.Supply h port) (acts.Supplied (Err e)) v S P s = supply_refused w h port e v P s
one_goes w (acts.Release h port) (acts.Acted (Ok Did)) v S P s = release_bare w h port v P s
one_goes w (acts.Release h port) (acts.Acted (Err e)) v S P s = release_refused w h port e v P s
one_goes w (acts.HandOver h port) (acts.Acted (Ok Did)) v S P s = over_bare w h port v P s
one_goes w (acts.HandOver h port) (acts.Acted (Err e)) v S P s = over_refused w h port e v P s
one_goes w (acts.HandBack h port) (acts.Acted (Ok Did)) v S P s = back_bare w h port v P s
one_goes w (acts.HandBack h port) (acts.Acted (Err e)) v S P s = back_refused w h port e v P s
one_goes w (acts.Claim h) (acts.Claimed result) v S P s = claim_bare w h result v P s
one_goes w (acts.Finish done) acts.Finished v S P s = finish_bare w done v P s
one_goes w _ _ v S P s = absurd P

pub one_back : (w : World) (a : Act) (r : Reply) (u : World) → Sound w → IsPlayAct w a r → Step (bare w) (bare_act a) r u → Returns (λ v. Step w a r v) u
one_back w (acts.SetParameter h key value) (acts.Plain result) u S P s = set_back w h key value result u P s
one_back w (acts.SetupTunnel output input) (acts.Joined result) u S P s = setup_back w output input result u (sound_apart w S) P.0 P.1 s
one_back w (acts.DropTunnel output input) (acts.Plain result) u S P s = drop_back w output input result u P.0 P.1 s
one_back w (acts.SendCommand h command) (acts.Plain result) u S P s = send_back w h command result u P.0 P.1 s
one_back w (acts.RunCommand h) (acts.Acted (Ok Did)) u S P s = run_back w h u P s
one_back w (acts.TakeNote h) (acts.Took (Ok (TookNote (TakenEvent event)))) u S P s = take_back w h event u P s
one_back w (acts.EndNote h progress) acts.Ended u S P s = end_back w h u P s
one_back w (acts.Supply h port) (acts.Supplied (Ok Did)) u S P s = supply_back w h port u P s
one_back w (acts.Supply h port) (acts.Supplied (Err e)) u S P s = supply_refused_back w h port e u P s
one_back w (acts.Release h port) (acts.Acted (Ok Did)) u S P s = release_back w h port u P s
one_back w (acts.Release h port) (acts.Acted (Err e)) u S P s = release_refused_back w h port e u P s
one_back w (acts.HandOver h port) (acts.Acted (Ok Did)) u S P s = over_back w h port u P s
one_back w (acts.HandOver h port) (acts.Acted (Err e)) u S P s = over_refused_back w h port e u P s
one_back w (acts.HandBack h port) (acts.Acted (Ok Did)) u S P s = back_back w h port u P s
one_back w (acts.HandBack h port) (acts.Acted (Err e)) u S P s = back_refused_back w h port e u P s
one_back w (acts.Claim h) (acts.Claimed result) u S P s = claim_back w h result u P s
one_back w (acts.Finish done) acts.Finished u S P s = finish_back w done u P s
one_back w _ _ u S P s = absurd P

-- ---- a run

pub all_go : (w : World) (xs : List (Act × Reply)) (v : World) → Sound w → PlayRun w xs v → Run (bare w) (map bare_step xs) (bare v)
all_go w [] v S is = ap bare is
all_go w (x ∷ xs) v S (mid, meets, step, played, rest) =
    (bare mid, meets_bare w x.0 x.1 played meets, one_goes w x.0 x.1 mid S played step, all_go mid xs v (sound_step w mid x.0 x.1 meets step S) rest)

-- ---- in another world

-- a handle with that number, which whoever has the number has
record HasHandle (w : World) (h : Handle) : Type 0 where
  handle : Handle
  same : bare_handle handle ≡ bare_handle h
  known : IsKnown handle w

numbered : (n : ℕ) (cs : List Component)
    → ((k : ℕ) × (c : Component) × (slice_get cs k ≡ Some c) × (number_of c ≡ n)) ⊎ ((k : ℕ) (c : Component) → slice_get cs k ≡ Some c → number_of c ≢ n)
numbered n [] = inr (λ k c e. absurd cc)
numbered n (c ∷ cs) = elim (cases_eq (number_of c) n) [
  | inl e ↦ inl (0, c, refl, e)
  | inr d ↦ elim (numbered n cs) [
    | inl f ↦ inl (suc f.0, f.1, f.2, f.3)
    | inr none ↦ inr (beyond d none)
  ]
]
  where
    beyond : number_of c ≢ n → ((k : ℕ) (x : Component) → slice_get cs k ≡ Some x → number_of x ≢ n) → (k : ℕ) (x : Component) → slice_get (c ∷ cs) k ≡ Some x → number_of x ≢ n
    beyond d none zero x e f = let is : c ≡ x = cc in d (ap number_of is ∙ f)
    beyond d none (suc k) x e f = none k x e f

handle_in : (w : World) → IsApart w → (h : Handle) → HasHandle w h
handle_in w A h = elim (numbered h.generation w.components) [
  | inl f ↦ record { handle = (f.1).handle; same = λ j. record { slot = 0; generation = f.3 j }; known = A f.0 f.1 f.2 }
  | inr none ↦ record { handle = h; same = refl; known = λ k c e f. absurd (none k c e f) }
]

-- the act by the handles of the other world
record HasAct (w : World) (a : Act) (r : Reply) : Type 0 where
  act : Act
  same : bare_act act ≡ bare_act a
  plays : IsPlayAct w act r

act_in : (u w : World) → IsApart w → (a : Act) (r : Reply) → IsPlayAct u a r → HasAct w a r
act_in u w A (acts.SetParameter h key value) (acts.Plain result) P =
    let k = handle_in w A h in
    record { act = acts.SetParameter k.handle key value; same = ap (λ (x : Handle). acts.SetParameter x key value) k.same; plays = k.known }
act_in u w A (acts.SetupTunnel output input) (acts.Joined result) P =
    let k = handle_in w A output.handle in
    let j = handle_in w A input.handle in
    record {
      act = acts.SetupTunnel (record output { handle = k.handle }) (record input { handle = j.handle });
      same = λ i. acts.SetupTunnel (record { handle = k.same i; index = output.index }) (record { handle = j.same i; index = input.index });
      plays = (k.known, j.known);
    }
act_in u w A (acts.DropTunnel output input) (acts.Plain result) P =
    let k = handle_in w A output.handle in
    let j = handle_in w A input.handle in
    record {
      act = acts.DropTunnel (record output { handle = k.handle }) (record input { handle = j.handle });
      same = λ i. acts.DropTunnel (record { handle = k.same i; index = output.index }) (record { handle = j.same i; index = input.index });
      plays = (k.known, j.known);
    }
act_in u w A (acts.SendCommand h command) (acts.Plain result) P =
    let k = handle_in w A h in
    record { act = acts.SendCommand k.handle command; same = ap (λ (x : Handle). acts.SendCommand x command) k.same; plays = (k.known, P.1) }
act_in u w A (acts.RunCommand h) (acts.Acted (Ok Did)) P =
    let k = handle_in w A h in
    record { act = acts.RunCommand k.handle; same = ap acts.RunCommand k.same; plays = k.known }
act_in u w A (acts.TakeNote h) (acts.Took (Ok (TookNote (TakenEvent event)))) P =
    let k = handle_in w A h in
    record { act = acts.TakeNote k.handle; same = ap acts.TakeNote k.same; plays = k.known }
act_in u w A (acts.EndNote h progress) acts.Ended P =
    let k = handle_in w A h in
    record { act = acts.EndNote k.handle progress; same = ap (λ (x : Handle). acts.EndNote x progress) k.same; plays = k.known }
act_in u w A (acts.Supply h port) (acts.Supplied (Ok Did)) P =
    let k = handle_in w A h in
    record { act = acts.Supply k.handle port; same = ap (λ (x : Handle). acts.Supply x port) k.same; plays = k.known }
act_in u w A (acts.Supply h port) (acts.Supplied (Err e)) P =
    let k = handle_in w A h in
    record { act = acts.Supply k.handle port; same = ap (λ (x : Handle). acts.Supply x port) k.same; plays = k.known }
act_in u w A (acts.Release h port) (acts.Acted (Ok Did)) P =
    let k = handle_in w A h in
    record { act = acts.Release k.handle port; same = ap (λ (x : Handle). acts.Release x port) k.same; plays = k.known }
act_in u w A (acts.Release h port) (acts.Acted (Err e)) P =
    let k = handle_in w A h in
    record { act = acts.Release k.handle port; same = ap (λ (x : Handle). acts.Release x port) k.same; plays = k.known }
act_in u w A (acts.HandOver h port) (acts.Acted (Ok Did)) P =
    let k = handle_in w A h in
    record { act = acts.HandOver k.handle port; same = ap (λ (x : Handle). acts.HandOver x port) k.same; plays = k.known }
act_in u w A (acts.HandOver h port) (acts.Acted (Err e)) P =
    let k = handle_in w A h in
    record { act = acts.HandOver k.handle port; same = ap (λ (x : Handle). acts.HandOver x port) k.same; plays = k.known }
act_in u w A (acts.HandBack h port) (acts.Acted (Ok Did)) P =
    let k = handle_in w A h in
    record { act = acts.HandBack k.handle port; same = ap (λ (x : Handle). acts.HandBack x port) k.same; plays = k.known }
act_in u w A (acts.HandBack h port) (acts.Acted (Err e)) P =
    let k = handle_in w A h in
    record { act = acts.HandBack k.handle port; same = ap (λ (x : Handle). acts.HandBack x port) k.same; plays = k.known }
act_in u w A (acts.Claim h) (acts.Claimed result) P =
    let k = handle_in w A h in
    record { act = acts.Claim k.handle; same = ap acts.Claim k.same; plays = k.known }
act_in u w A (acts.Finish done) acts.Finished P = record { act = acts.Finish done; same = refl; plays = P }
act_in u w A _ _ P = absurd P

pub one_follows : (u w : World) (a : Act) (r : Reply) (v : World) → bare u ≡ bare w → Sound u → Sound w → Meets u a → Step u a r v → IsPlayAct u a r → CanFollow w a r (bare v)
one_follows u w a r v e S T m s P =
    let A = act_in u w (sound_apart w T) a r P in
    let meets : Meets (bare w) (bare_act A.act) = subst (λ (x : World). Meets x (bare_act A.act)) e (subst (Meets (bare u)) (sym A.same) (meets_bare u a r P m)) in
    let steps : Step (bare w) (bare_act A.act) r (bare v) = subst (λ (x : World). Step x (bare_act A.act) r (bare v)) e (subst (λ (b : Act). Step (bare u) b r (bare v)) (sym A.same) (one_goes u a r v S P s)) in
    let R = one_back w A.act r (bare v) T A.plays steps in
    record { own = A.act; same = A.same; meets = meets_back w A.act r A.plays meets; after = R.v; step = R.does; is = R.is }
