-- The conditions of the acts' laws: in a sound world each component is the one of its number, and what an act wants of the world it wants of
-- the bare one.
use Rattle.std.proofs.Common.{◌≡◌, ℕ, Bool, true, false, slice_get, Option, Some, None, option_map, option_and_then, refl, sym, ◌∙◌, ap, subst}
use Rattle.std.proofs.lemmas.Option.{slice_get-map}
use Rattle.std.specs.Prelude.{map, MatchOption}
use Rattle.omx_types.specs.declared.handle.Handle.{Handle}
use Rattle.il_machine.specs.Acts.{Act, Reply}
use Rattle.il_machine.specs.Acts as acts
use Rattle.il_machine.specs.declared.answer.Progress.{Progress as ClientProgress}
use Rattle.il_machine.specs.Answers.{component_named}
use Rattle.il_machine.specs.Components.{progress_of}
use Rattle.il_machine.specs.Run.{Meets}
use Rattle.il_machine.specs.Sound.{Sound}
use Rattle.il_machine.specs.Stepping.{IsDoneBy, IsDoneOf, WorkDone}
use Rattle.il_machine.specs.World.{Component, Work, World, component_numbered, place_numbered, place_of}
use Rattle.machine_laws.proofs.Lookups.{same_place}
use Rattle.bare_run_laws.specs.Bare.{IsApart, IsKnown, bare, bare_component, bare_handle}
use Rattle.bare_run_laws.specs.Runs.{IsPlayAct, bare_act}
use Rattle.bare_run_laws.proofs.Places.{numbered_same, place_same}

some_is : {A : Type 0} (x y : A) → Some x ≡ Some y → x ≡ y
some_is x y e = cc

pub sound_apart : (w : World) → Sound w → IsApart w
sound_apart w S = λ j d at k c there e.
    let p : k ≡ j = same_place 0 w.numbered k j w.components c d S.rising there at e in
    ap (λ (x : Component). x.handle) (some_is c d (sym there ∙ (ap (slice_get w.components) p ∙ at)))

numbered_there : (number : ℕ) (w : World) → component_numbered number (bare w) ≡ option_map bare_component (component_numbered number w)
numbered_there number w = ap (λ (o : Option ℕ). option_and_then (slice_get (bare w).components) o) (numbered_same number w.components) ∙ go (place_numbered number w.components)
  where
    go : (o : Option ℕ) → option_and_then (slice_get (map bare_component w.components)) o ≡ option_map bare_component (option_and_then (slice_get w.components) o)
    go None = refl
    go (Some i) = slice_get-map bare_component w.components i

done_same : (b : Bool) (w : World) (c : Component) (work : Work) (done : WorkDone) → IsDoneBy b w c work done → IsDoneBy b (bare w) (bare_component c) work done
done_same true w c work done h = h
done_same false w c work done h = h

work_same : (o : Option Work) (w : World) (c : Component) (done : WorkDone) → MatchOption o ⊥ (λ work. IsDoneOf w c work done) → MatchOption o ⊥ (λ work. IsDoneOf (bare w) (bare_component c) work done)
work_same None w c done h = h
work_same (Some work) w c done h = done_same work.announces w c work done h

done_bare : (w : World) (done : WorkDone) → Meets w (acts.Finish done) → Meets (bare w) (acts.Finish done)
done_bare w done M = subst (λ (o : Option Component). MatchOption o ⊥ (λ c. MatchOption c.work ⊥ (λ work. IsDoneOf (bare w) c work done))) (sym (numbered_there done.component w)) (go (component_numbered done.component w) M)
  where
    go : (o : Option Component) → MatchOption o ⊥ (λ c. MatchOption c.work ⊥ (λ work. IsDoneOf w c work done)) → MatchOption (option_map bare_component o) ⊥ (λ c. MatchOption c.work ⊥ (λ work. IsDoneOf (bare w) c work done))
    go None h = h
    go (Some c) h = work_same c.work w c done h

done_kept : (b : Bool) (w : World) (c : Component) (work : Work) (done : WorkDone) → IsDoneBy b (bare w) (bare_component c) work done → IsDoneBy b w c work done
done_kept true w c work done h = h
done_kept false w c work done h = h

work_kept : (o : Option Work) (w : World) (c : Component) (done : WorkDone) → MatchOption o ⊥ (λ work. IsDoneOf (bare w) (bare_component c) work done) → MatchOption o ⊥ (λ work. IsDoneOf w c work done)
work_kept None w c done h = h
work_kept (Some work) w c done h = done_kept work.announces w c work done h

done_back : (w : World) (done : WorkDone) → Meets (bare w) (acts.Finish done) → Meets w (acts.Finish done)
done_back w done M = go (component_numbered done.component w)
    (subst (λ (o : Option Component). MatchOption o ⊥ (λ c. MatchOption c.work ⊥ (λ work. IsDoneOf (bare w) c work done))) (numbered_there done.component w) M)
  where
    go : (o : Option Component) → MatchOption (option_map bare_component o) ⊥ (λ c. MatchOption c.work ⊥ (λ work. IsDoneOf (bare w) c work done)) → MatchOption o ⊥ (λ c. MatchOption c.work ⊥ (λ work. IsDoneOf w c work done))
    go None h = h
    go (Some c) h = work_kept c.work w c done h

-- ---- a client object is handed back

module _ (w : World) (h : Handle) (progress : ClientProgress) (known : IsKnown h w) where
  named_there : component_named (bare_handle h) (bare w).components ≡ option_map bare_component (component_named h w.components)
  named_there = ap (λ (o : Option ℕ). option_and_then (slice_get (bare w).components) o) (place_same h w known) ∙ go (place_of h w.components)
    where
      go : (o : Option ℕ) → option_and_then (slice_get (map bare_component w.components)) o ≡ option_map bare_component (option_and_then (slice_get w.components) o)
      go None = refl
      go (Some i) = slice_get-map bare_component w.components i

  abbrev IsOut : World → Component → Type 0
  IsOut u c = (c.client_out ≡ true) × (progress ≡ progress_of c u)

  end_bare : MatchOption (component_named h w.components) ⊥ (IsOut w) → MatchOption (component_named (bare_handle h) (bare w).components) ⊥ (IsOut (bare w))
  end_bare M = subst (λ (o : Option Component). MatchOption o ⊥ (IsOut (bare w))) (sym named_there) (go (component_named h w.components) M)
    where
      go : (o : Option Component) → MatchOption o ⊥ (IsOut w) → MatchOption (option_map bare_component o) ⊥ (IsOut (bare w))
      go None m = m
      go (Some c) m = m

  end_back : MatchOption (component_named (bare_handle h) (bare w).components) ⊥ (IsOut (bare w)) → MatchOption (component_named h w.components) ⊥ (IsOut w)
  end_back M = go (component_named h w.components) (subst (λ (o : Option Component). MatchOption o ⊥ (IsOut (bare w))) named_there M)
    where
      go : (o : Option Component) → MatchOption (option_map bare_component o) ⊥ (IsOut (bare w)) → MatchOption o ⊥ (IsOut w)
      go None m = m
      go (Some c) m = m

-- ---- an act

pub meets_bare : (w : World) (a : Act) (r : Reply) → IsPlayAct w a r → Meets w a → Meets (bare w) (bare_act a)
meets_bare w (acts.EndNote h progress) acts.Ended P M = end_bare w h progress P M
meets_bare w (acts.Finish done) acts.Finished P M = done_bare w done M
meets_bare w (acts.SetParameter h key value) r P M = tt
meets_bare w (acts.SetupTunnel output input) r P M = tt
meets_bare w (acts.DropTunnel output input) r P M = tt
meets_bare w (acts.SendCommand h command) r P M = tt
meets_bare w (acts.RunCommand h) r P M = tt
meets_bare w (acts.TakeNote h) r P M = tt
meets_bare w (acts.Supply h port) r P M = tt
meets_bare w (acts.Release h port) r P M = tt
meets_bare w (acts.HandOver h port) r P M = tt
meets_bare w (acts.HandBack h port) r P M = tt
meets_bare w (acts.Claim h) r P M = tt
meets_bare w _ _ P M = absurd P

pub meets_back : (w : World) (a : Act) (r : Reply) → IsPlayAct w a r → Meets (bare w) (bare_act a) → Meets w a
meets_back w (acts.EndNote h progress) acts.Ended P M = end_back w h progress P M
meets_back w (acts.Finish done) acts.Finished P M = done_back w done M
meets_back w (acts.SetParameter h key value) r P M = tt
meets_back w (acts.SetupTunnel output input) r P M = tt
meets_back w (acts.DropTunnel output input) r P M = tt
meets_back w (acts.SendCommand h command) r P M = tt
meets_back w (acts.RunCommand h) r P M = tt
meets_back w (acts.TakeNote h) r P M = tt
meets_back w (acts.Supply h port) r P M = tt
meets_back w (acts.Release h port) r P M = tt
meets_back w (acts.HandOver h port) r P M = tt
meets_back w (acts.HandBack h port) r P M = tt
meets_back w (acts.Claim h) r P M = tt
meets_back w _ _ P M = absurd P
