-- The acts by which works go out and come back.
use Rattle.std.proofs.Common.{◌≡◌, inl, inr, ℕ, true, false, nat_eq, Some, None, IsSomeAnd, Result, Ok, Err, option_and_then, slice_get, refl, sym, ◌∙◌, ap, subst, eqb-true}
use Rattle.omx_types.specs.declared.handle.Handle.{Handle}
use Rattle.omx_types.specs.declared.error.OmxError.{OmxError}
use Rattle.part_api.specs.Terms.{Terms}
use Rattle.il_machine.specs.Acts as acts
use Rattle.il_machine.specs.Answers.{component_named}
use Rattle.il_machine.specs.Claims.{Claim, ClaimedWork}
use Rattle.il_machine.specs.Claims as machine
use Rattle.il_machine.specs.Look.{Look}
use Rattle.il_machine.specs.Run.{Step}
use Rattle.il_machine.specs.Sound.{Sound}
use Rattle.il_machine.specs.Whole.{HasDone, Stands}
use Rattle.il_machine.specs.World.{Component, Stream, World, component_numbered, number_of, place_of}
use Rattle.machine_laws.proofs.Granting.{placed_there}
use Rattle.machine_laws.proofs.Steps.{sound_step}
use Rattle.history_laws.specs.Works.{has_work_out, takes_work}
use Rattle.history_laws.proofs.Freed.{none_before}
use Rattle.history_laws.proofs.HeldOut.{claims_held}
use Rattle.machine_laws.proofs.Finding.{either}
use Rattle.graph_core.specs.Claiming.{AreLent}
use Rattle.graph_core.specs.Finishing.{AreHandedBack}
use Rattle.audio_parts.specs.declared.any_part.AnyPart.{AnyPart}
use Rattle.audio_parts.specs.Shown.{ShownPart}
use Rattle.il_flow.specs.Works.{WorkOf, seen_work}
use Rattle.il_flow.proofs.Sameness.{itself}
use Rattle.il_graph.specs.declared.claimed.Claimed.{Claimed as Given}
use Rattle.il_graph.specs.declared.claimed.Claimed.TheVariants as given
use Rattle.il_graph.specs.Claiming as graphs
use Rattle.il_graph.specs.Claiming.{AreTermsOf, IsSoFar, OnWork}
use Rattle.il_graph.specs.Finishing.{IsItsOwn}
use Rattle.il_graph.specs.Shown.{Shown, kept, look_of, seen_of}
use Rattle.il_graph.proofs.Back.{number_named}
use Rattle.il_graph.proofs.Calling.{and_some}
use Rattle.il_graph.proofs.Going.{placed_at}
use Rattle.il_graph.proofs.Returning.{handed_back}
use Rattle.graph_acts.specs.declared.claimed.LentClaim.{LentClaim}
use Rattle.graph_acts.specs.declared.claimed.LentClaim.TheVariants as claimed
use Rattle.graph_acts.specs.Hiding.{shown_work}
use Rattle.graph_acts.specs.Lending.{OnLent, claimed_as, lent_as}
use Rattle.graph_acts.specs.Plain.{Sight, Unsaid}
use Rattle.graph_acts.specs.Working.{IsWorkIn, MovesWorks, claimed_work, out_of}
use Rattle.graph_acts.proofs.Lasting.{out_in, some_there, still_in, was_out, works_stay}

-- what is known of the component that a handle names
record IsNamed (h : Handle) (w : World) (P : Component → Type 0) : Type 0 where
  component : Component
  named : component_named h w.components ≡ Some component
  holds : P component
  number : number_of component ≡ h.generation
  by_number : component_numbered h.generation w ≡ Some component

named_in : (h : Handle) (w : World) (P : Component → Type 0) → Sound w → IsSomeAnd (component_named h w.components) P → IsNamed h w P
named_in h w P S m =
    let x = some_there (component_named h w.components) P m in
    let j = placed_at w.components (place_of h w.components) x.0 x.1 in
    let n = number_named h w.components j.0 x.0 j.1 j.2 in
    record {
      component = x.0;
      named = x.1;
      holds = x.2;
      number = n;
      by_number = ap (λ (k : ℕ). component_numbered k w) (sym n) ∙ (ap (option_and_then (slice_get w.components)) (placed_there w.numbered j.0 w.components x.0 S.rising j.2) ∙ j.2);
    }

module _ {S K C : Type 0} (see : Sight S K C) (h : Handle) (old new : Shown S K C) (u : Unsaid) where
  -- what the call says of the work that it gave
  pub record WasClaimed (work : WorkOf (ShownPart S K)) : Type 0 where
    pub handle : work.component ≡ h
    pub far : (w : World) → Stands (kept see.progress old) w → (v : World) × Claim w h (Ok (ClaimedWork (seen_work u.terms work))) v × IsSoFar u.terms v work.component.generation (seen_of (work.part))
    pub set_so : work.announces ≡ false → (work.part).terms ≡ u.terms
    pub its : IsSomeAnd (component_named h (look_of new).components) (λ c. IsItsOwn c work.announces None (work.part).terms (work.part).failed)
    pub whole : (work.part).failed ≡ false
    pub lent : AreLent h.generation work.headers (look_of new)

  work_in : (work : WorkOf (ShownPart S K)) → WasClaimed work → (w v : World) → Sound w → Stands (kept see.progress old) w → Stands (kept see.progress new) v
      → Claim w h (Ok (ClaimedWork (seen_work u.terms work))) v → IsWorkIn v (out_of work)
  work_in work W w v D o n step =
      let V : Sound v = sound_step w v (acts.Claim h) (acts.Claimed (Ok (ClaimedWork (seen_work u.terms work)))) tt step D in
      let H = claims_held w h (seen_work u.terms work) v D step in
      let y = W.far w o in
      let G = claims_held w h (seen_work u.terms work) y.0 D y.1 in
      let one : Some G.0 ≡ Some H.0 = sym G.1 ∙ H.1 in
      let same : G.0 ≡ H.0 = cc in
      let c = named_in h v (λ (c : Component). IsItsOwn c work.announces None (work.part).terms (work.part).failed) V
      (subst (λ (l : Look). IsSomeAnd (component_named h l.components) (λ c. IsItsOwn c work.announces None (work.part).terms (work.part).failed)) (sym n.looks) W.its) in
      let number : work.component.generation ≡ h.generation = ap (λ (x : Handle). x.generation) W.handle in
      let two : Some (H.2).component ≡ Some c.component = sym (H.2).there ∙ (ap (λ (m : ℕ). component_numbered m v) number ∙ c.by_number) in
      let is : (H.2).component ≡ c.component = cc in
      record {
        terms = u.terms;
        stream = H.0;
        out = H.2;
        gone = subst (λ (z : Stream). HasDone u.terms false z (seen_of (work.part))) same (y.2 G.0 (G.2).stream);
        set_so = W.set_so;
        kind = c.holds.kind ∙ (ap (λ (x : Component). x.settings.kind) (sym is) ∙ (H.2).kind);
        its_file = c.holds.its_file ∙ (ap (λ (x : Component). x.file) (sym is) ∙ (H.2).file);
        whole = W.whole;
        named = subst (λ (x : Handle). IsSomeAnd (component_named x v.components) (λ c. number_of c ≡ x.generation)) (sym W.handle) (and_some (λ (x : Component). number_of x ≡ h.generation) (component_named h v.components) c.component c.named c.number);
        headers = subst (λ (l : Look). AreHandedBack work.headers l) (sym n.looks) (handed_back h.generation work.headers work.headers (look_of new) W.lent (itself work.headers));
      }

  work_out : (work : WorkOf (ShownPart S K)) → WasClaimed work → (w v : World) → Sound w → Stands (kept see.progress old) w → Stands (kept see.progress new) v
      → Claim w h (Ok (ClaimedWork (seen_work u.terms work))) v → MovesWorks None (Some (out_of work)) w v
  work_out work W w v S o n step =
      let a : acts.Act = acts.Claim h in
      let r : acts.Reply = acts.Claimed (Ok (ClaimedWork (seen_work u.terms work))) in
      record {
        stay = λ x other H. still_in w a r v x S tt step refl H;
        back = λ m out. either (nat_eq h.generation m)
            (λ t. inr (ap (λ (x : Handle). x.generation) W.handle ∙ eqb-true h.generation m t))
            (λ f. inl (was_out w a r v m S tt step f out, tt));
        given = record {
          now = work_in work W w v S o n step;
          other = λ y H e. let z : true ≡ false = sym (out_in w y H) ∙ (ap (λ (m : ℕ). has_work_out m w) e ∙ none_before w h (seen_work u.terms work) v S step) in cc;
        };
      }

  -- the answer gives no work
  no_work : (answer : Result machine.Claimed OmxError) → ((m : ℕ) → takes_work m (acts.Claim h) (acts.Claimed answer) ≡ false) → (w v : World) → Sound w → Step w (acts.Claim h) (acts.Claimed answer) v → MovesWorks {S = S} {K = K} None None w v
  no_work answer none w v S step = works_stay w v (acts.Claim h) (acts.Claimed answer) S tt step (λ m. (refl, none m))

  pub claim_works : (result : Result (LentClaim S K) OmxError) → (AreTermsOf h (look_of old) u.terms → OnLent result (λ work. WasClaimed work)) → (w v : World) → Sound w → Stands (kept see.progress old) w → Stands (kept see.progress new) v
      → AreTermsOf h (look_of old) u.terms → Step w (acts.Claim h) (acts.Claimed (claimed_as u.terms result)) v → MovesWorks None (claimed_work result) w v
  claim_works (Ok (claimed.Work work)) W w v S o n t step = work_out work (W t) w v S o n step
  claim_works (Ok claimed.Busy) W w v S o n t step = no_work (Ok machine.ClaimedBusy) (λ m. refl) w v S step
  claim_works (Ok claimed.NotRunning) W w v S o n t step = no_work (Ok machine.ClaimedNotRunning) (λ m. refl) w v S step
  claim_works (Ok claimed.Ended) W w v S o n t step = no_work (Ok machine.ClaimedEnded) (λ m. refl) w v S step
  claim_works (Ok (claimed.Held port)) W w v S o n t step = no_work (Ok (machine.ClaimedHeld port)) (λ m. refl) w v S step
  claim_works (Ok (claimed.NoData port)) W w v S o n t step = no_work (Ok (machine.ClaimedNoData port)) (λ m. refl) w v S step
  claim_works (Ok (claimed.NoRoom port)) W w v S o n t step = no_work (Ok (machine.ClaimedNoRoom port)) (λ m. refl) w v S step
  claim_works (Ok (claimed.Events room need)) W w v S o n t step = no_work (Ok (machine.ClaimedEvents room need)) (λ m. refl) w v S step
  claim_works (Err e) W w v S o n t step = no_work (Err e) (λ m. refl) w v S step

module _ {S K : Type 0} {s : _} {k : _} (f : AnyPart S K s k → ShownPart S K) where
  pub on_lent : {E : Type 0} (result : Result (Given S K s k) E) (P : WorkOf (ShownPart S K) → Type 0) → ((work : WorkOf (AnyPart S K s k)) → result ≡ Ok (given.Work work) → P (shown_work f work)) → OnLent (lent_as f result) P
  on_lent (Ok (given.Work work)) P g = g work refl
  on_lent (Ok given.Busy) P g = tt
  on_lent (Ok given.NotRunning) P g = tt
  on_lent (Ok given.Ended) P g = tt
  on_lent (Ok (given.Held port)) P g = tt
  on_lent (Ok (given.NoData port)) P g = tt
  on_lent (Ok (given.NoRoom port)) P g = tt
  on_lent (Ok (given.Events room need)) P g = tt
  on_lent (Err e) P g = tt

  -- the machine tells both the same
  pub lent_told : {E : Type 0} (t : Terms) (result : Result (Given S K s k) E) → claimed_as t (lent_as f result) ≡ graphs.claimed_as t result
  lent_told t (Ok (given.Work work)) = refl
  lent_told t (Ok given.Busy) = refl
  lent_told t (Ok given.NotRunning) = refl
  lent_told t (Ok given.Ended) = refl
  lent_told t (Ok (given.Held port)) = refl
  lent_told t (Ok (given.NoData port)) = refl
  lent_told t (Ok (given.NoRoom port)) = refl
  lent_told t (Ok (given.Events room need)) = refl
  lent_told t (Err e) = refl

module _ {S K : Type 0} {s : _} {k : _} where
  pub at_work : {E : Type 0} (result : Result (Given S K s k) E) (work : WorkOf (AnyPart S K s k)) (P : WorkOf (AnyPart S K s k) → Type 0) → result ≡ Ok (given.Work work) → OnWork result P → P work
  at_work result work P is m = rw is at m
