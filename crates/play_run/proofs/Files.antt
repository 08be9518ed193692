-- What each file told when it came stays while its part works.
use Rattle.std.proofs.Common.{◌≡◌, inl, inr, find, ℕ, Bool, nat_eq, if◌then◌else◌, slice_get, Option, None, Some, MatchOption, Result, refl, sym, ◌∙◌, ap, subst, eqb-true}
use Rattle.std.proofs.lemmas.Bool.{eqb-false}
use Rattle.omx_types.specs.declared.error.OmxError.{OmxError}
use Rattle.omx_types.specs.declared.handle.Handle.{Handle}
use Rattle.il_machine.specs.Answers.{plain}
use Rattle.il_machine.specs.Claims.{Claim, Claimed, Claims, claim_idle, with_work, work_of}
use Rattle.il_machine.specs.Due.{ClosesTo}
use Rattle.il_machine.specs.Finishing.{Finish, announced, finished, finished_by, gone_through, with_landed}
use Rattle.il_machine.specs.Headers.{seen}
use Rattle.il_machine.specs.Look.{look}
use Rattle.il_machine.specs.Stepping.{WorkDone}
use Rattle.il_machine.specs.World.{Component, Stream, Work, World, changed_at, is_stream_of, number_of, place_numbered, place_of, stream_of, with_component}
use Rattle.machine_laws.proofs.Finding.{either}
use Rattle.machine_laws.proofs.Keys.{none_or_some, there_is}
use Rattle.play_world_laws.proofs.Claims.{claims_none, claims_some}
use Rattle.play_world_laws.proofs.Lists.{resolved}
use Rattle.play_world_laws.proofs.Told.{stream_else, stream_gone}
use Rattle.play_stream_laws.proofs.Closing.{closes_keep}
use Rattle.play_run.specs.Playing.{ToldAlike}

-- no file goes through anything
pub told_same : (opening w v : World) → ToldAlike opening w → v.streams ≡ w.streams → ToldAlike opening v
told_same opening w v T e = λ n t q. T n t (ap (find (is_stream_of n)) (sym e) ∙ q)

pub told_on : (opening w v : World) → ToldAlike opening w → ToldAlike w v → ToldAlike opening v
told_on opening w v T U = λ n t q. let s = U n t q in let o = T n s.0 s.1 in (o.0, o.1, s.2 ∙ o.2)

pub claim_stays : (w v : World) (i : ℕ) (a : Component) (h : Handle) (result : Result Claimed OmxError) → place_of h w.components ≡ Some i → slice_get w.components i ≡ Some a → Claim w h result v → v.streams ≡ w.streams
claim_stays w v i a h result N e s =
    let r : Claims (claim_idle (look w) a) i a w result v = resolved plain w h result v (λ j y. Claims (claim_idle (look w) y) j y w result v) i a N e s in
    elim (none_or_some (claim_idle (look w) a)) [
      | inr z ↦ ap (λ (y : World). y.streams) (claims_some (claim_idle (look w) a) z.0 i a w result v z.1 r).1
      | inl n ↦ (closes_keep (with_work i a (work_of (seen w.headers) a) w) v (claims_none (claim_idle (look w) a) i a w result v n r).1).streams
    ]

-- ---- a work that comes back

-- the file of the component goes through the frames of the step
landed_told : (w : World) (i : ℕ) (a : Component) (its : WorkDone) (s : Stream) → stream_of (number_of a) w ≡ Some s → ToldAlike w (with_landed i a its s w)
landed_told w i a its s f = λ n t now.
    let u : World = with_landed i a its s w in
    either (nat_eq n (number_of a))
    (λ q.
    let own = eqb-true n (number_of a) q in
    let z : Some (gone_through its s) ≡ Some t = sym (ap (λ (m : ℕ). stream_of m u) own ∙ stream_gone w u (number_of a) (gone_through its) s (λ j. refl) refl f) ∙ now in
    let is : gone_through its s ≡ t = cc in
    (s, ap (λ (m : ℕ). stream_of m w) own ∙ f, ap (λ (y : Stream). y.known) (sym is)))
    (λ q. (t, sym (stream_else w u (number_of a) n (gone_through its) (λ j. refl) refl (eqb-false n (number_of a) q)) ∙ now, refl))

module _ (w : World) (i : ℕ) (a : Component) (its : WorkDone) where
  abbrev changed : Option Stream → World
  changed o = changed_at o w (λ s. with_landed i a its s w)

  abbrev back : Bool → World
  back announces = if announces then with_component i (announced a) w else changed (stream_of (number_of a) w)

  finished_told : (o : Option Work) → ToldAlike w (finished_by i a its o w)
  finished_told None = λ n t q. (t, q, refl)
  finished_told (Some work) = either work.announces
      (λ e. subst (ToldAlike w) (sym (ap back e)) (λ n t q. (t, q, refl)))
      (λ e. subst (ToldAlike w) (sym (ap back e)) (elim (none_or_some (stream_of (number_of a) w)) [
        | inl z ↦ subst (ToldAlike w) (sym (ap changed z)) (λ n t q. (t, q, refl))
        | inr s ↦ subst (ToldAlike w) (sym (ap changed s.1)) (landed_told w i a its s.0 s.1)
      ]))

pub finish_told : (w v : World) (its : WorkDone) → Finish w its v → ToldAlike w v
finish_told w v its G =
    let i = there_is (place_numbered its.component w.components) (λ j. MatchOption (slice_get w.components j) ⊥ (λ y. ClosesTo (finished j y its w) v)) G in
    let a = there_is (slice_get w.components i.0) (λ y. ClosesTo (finished i.0 y its w) v) i.2 in
    let u : World = finished i.0 a.0 its w in
    told_same w u v (finished_told w i.0 a.0 its (a.0).work) (closes_keep u v a.2).streams
