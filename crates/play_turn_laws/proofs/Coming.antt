-- What each call of a turn comes to.
use Rattle.std.proofs.Common.{◌≡◌, inl, inr, ℕ, ◌<◌, true, false, slice_get, Some, None, Result, Ok, Err, refl, sym, ◌∙◌, ap, subst}
use Rattle.omx_types.specs.declared.error.CallError.{CallError}
use Rattle.omx_types.specs.declared.error.OmxError.{OmxError}
use Rattle.omx_types.specs.declared.handle.Handle.{Handle}
use Rattle.il_machine.specs.declared.answer.Acted.{Acted}
use Rattle.il_machine.specs.declared.answer.Acted.TheVariants.{Did, Idle}
use Rattle.il_machine.specs.Claims.{Claim, Claimed, ClaimedWork, WorkSeen}
use Rattle.il_machine.specs.Commands.{RunCommand}
use Rattle.il_machine.specs.Finishing.{Finish}
use Rattle.il_machine.specs.Flow as flow
use Rattle.il_machine.specs.Headers.{seen}
use Rattle.il_machine.specs.Lists.{is_empty}
use Rattle.il_machine.specs.Notes.{EndNote}
use Rattle.il_machine.specs.Stepping.{IsDoneOf, WorkDone}
use Rattle.il_machine.specs.World.{Component, Work, World}
use Rattle.machine_laws.proofs.Finding.{either}
use Rattle.play_model.specs.Acts.{Act, CanAct, acted}
use Rattle.play_model.specs.Acts.Act.{Begin, Send, Run, Happen, Tell, TellEnd, Supply, Release, HandOver, HandBack, HandUnused, Announce, TellSettings, Conduct, RunPort, HappenPort, TellPort, Step}
use Rattle.play_model.specs.Play.{Play, other_component, supplier}
use Rattle.play_loop.specs.Turns.{CanNone}
use Rattle.play_world_laws.specs.Cast.{away_at, components_of, home_at, links_of, script_place}
use Rattle.play_world_laws.specs.Worlds.{Names}
use Rattle.play_world_laws.specs.PlayWorlds.{IsPlayWorld, PlayCast}
use Rattle.play_world_laws.specs.Leading.{PlayLeadsTo}
use Rattle.play_world_laws.proofs.Announced.{announce_finished}
use Rattle.play_world_laws.proofs.Announcing.{announce_claimed}
use Rattle.play_world_laws.proofs.Running.{run_port_can, run_port_leads}
use Rattle.play_world_laws.proofs.StageRuns.{run_leads}
use Rattle.play_world_laws.proofs.Backs.{back_can, back_leads}
use Rattle.play_world_laws.proofs.Overs.{over_can, over_leads}
use Rattle.play_world_laws.proofs.Releases.{release_can, release_leads}
use Rattle.play_world_laws.proofs.Unuseds.{unused_can, unused_leads}
use Rattle.play_world_laws.proofs.SupplyCalls.{supply_can, supply_leads}
use Rattle.play_step_laws.proofs.Claiming.{claim_accepted}
use Rattle.play_step_laws.proofs.Finishing.{finish_leads}
use Rattle.play_world_laws.specs.Tellings.{IsTellingOf}
use Rattle.play_world_laws.proofs.ToldActs.{queued_so, told_so}
use Rattle.play_turn_laws.specs.Conducting.{IsOwnAct}
use Rattle.play_turn_laws.specs.Turns.{IsAct, IsBackOf, IsRunOf, IsStepOf, PlayCame, is_did}

-- ---- one act that is accepted where it can be made, and can be made where it was accepted

one_came : {E : Type 0} (x : PlayCast) (recent : ℕ) (p : Play) (v : World) (a : Act) (r : Result Acted E) → IsOwnAct a
    → (CanAct (x.cast).layout p a → (r ≡ Ok Did) × PlayLeadsTo x recent (acted (x.cast).layout a p) v) → (r ≡ Ok Did → CanAct (x.cast).layout p a) → PlayCame x recent p v (is_did r) (IsAct a)
one_came x recent p v a (Ok Did) O done can = let C = can refl in (a, refl, O, C, (done C).1)
one_came x recent p v a (Ok (Idle why)) O done can = λ b s C. let d = (done (subst (λ (y : Act). CanAct (x.cast).layout p y) s C)).0 in absurd cc
one_came x recent p v a (Err z) O done can = λ b s C. let d = (done (subst (λ (y : Act). CanAct (x.cast).layout p y) s C)).0 in absurd cc

-- ---- commands

run_accepted : (x : PlayCast) (recent : ℕ) (p : Play) (w : World) (c : ℕ) (h : Handle) (result : Result Acted OmxError) (v : World) → IsPlayWorld x recent p w → Names x.cast w c h → RunCommand w h result v
    → (a : Act) → IsRunOf (x.cast).layout c a → CanAct (x.cast).layout p a → IsOwnAct a × (result ≡ Ok Did) × PlayLeadsTo x recent (acted (x.cast).layout a p) v
run_accepted x recent p w c h result v W N s (Run d) e C =
    let r = run_leads x recent p w d h result v W C (subst (λ (k : ℕ). Names x.cast w k h) (sym e) N) s in
    (tt, r.0, r.1)
run_accepted x recent p w c h result v W N s (RunPort l o) e C =
    let r = run_port_leads x recent p w l o h result v W C (subst (λ (k : ℕ). Names x.cast w k h) (sym e) N) s in
    (tt, r.0, r.1)
run_accepted x recent p w c h result v W N s Begin e C = absurd e
run_accepted x recent p w c h result v W N s (Send d) e C = absurd e
run_accepted x recent p w c h result v W N s (Happen d) e C = absurd e
run_accepted x recent p w c h result v W N s (Tell d) e C = absurd e
run_accepted x recent p w c h result v W N s (TellEnd d) e C = absurd e
run_accepted x recent p w c h result v W N s (Supply l) e C = absurd e
run_accepted x recent p w c h result v W N s (Release l) e C = absurd e
run_accepted x recent p w c h result v W N s (HandOver l) e C = absurd e
run_accepted x recent p w c h result v W N s (HandBack l) e C = absurd e
run_accepted x recent p w c h result v W N s (HandUnused l) e C = absurd e
run_accepted x recent p w c h result v W N s (Announce l) e C = absurd e
run_accepted x recent p w c h result v W N s (TellSettings l) e C = absurd e
run_accepted x recent p w c h result v W N s (Conduct l) e C = absurd e
run_accepted x recent p w c h result v W N s (HappenPort l o) e C = absurd e
run_accepted x recent p w c h result v W N s (TellPort l o) e C = absurd e
run_accepted x recent p w c h result v W N s (Step d n last) e C = absurd e

pub runs_come : (x : PlayCast) (recent : ℕ) (p : Play) (w : World) (c : ℕ) (h : Handle) (result : Result Acted OmxError) (v : World) → IsPlayWorld x recent p w → c < components_of x.cast → Names x.cast w c h → RunCommand w h result v
    → PlayCame x recent p v (is_did result) (IsRunOf (x.cast).layout c)
runs_come x recent p w c h (Ok Did) v W b N s =
    let took = run_accepted x recent p w c h (Ok Did) v W N s in
    elim (run_port_can x recent p w c h (Ok Did) v W b N s refl) [
      | inl C ↦ let r = took (Act.Run c) refl C in (Act.Run c, refl, r.0, C, r.2)
      | inr D ↦ let r = took (Act.RunPort D.0 D.1) D.2 D.3 in (Act.RunPort D.0 D.1, D.2, r.0, D.3, r.2)
    ]
runs_come x recent p w c h (Ok (Idle why)) v W b N s = λ a e C. let r = (run_accepted x recent p w c h (Ok (Idle why)) v W N s a e C).1 in absurd cc
runs_come x recent p w c h (Err z) v W b N s = λ a e C. let r = (run_accepted x recent p w c h (Err z) v W N s a e C).1 in absurd cc

-- ---- notes

own_telling : (x : PlayCast) (c : ℕ) (a : Act) → IsTellingOf (x.cast).layout c a → IsOwnAct a
own_telling x c (Tell d) e = tt
own_telling x c (TellEnd d) e = tt
own_telling x c (TellSettings l) e = tt
own_telling x c (TellPort l o) e = tt
own_telling x c Begin e = absurd e
own_telling x c (Send d) e = absurd e
own_telling x c (Run d) e = absurd e
own_telling x c (Happen d) e = absurd e
own_telling x c (Supply l) e = absurd e
own_telling x c (Release l) e = absurd e
own_telling x c (HandOver l) e = absurd e
own_telling x c (HandBack l) e = absurd e
own_telling x c (HandUnused l) e = absurd e
own_telling x c (Announce l) e = absurd e
own_telling x c (Conduct l) e = absurd e
own_telling x c (RunPort l o) e = absurd e
own_telling x c (HappenPort l o) e = absurd e
own_telling x c (Step d n last) e = absurd e

pub tells_come : (x : PlayCast) (recent : ℕ) (p : Play) (w : World) (c : ℕ) (h : Handle) (v : World) (a : Component) → IsPlayWorld x recent p w → c < components_of x.cast → Names x.cast w c h
    → slice_get w.components (script_place x.cast c) ≡ Some a → a.client_out ≡ true → EndNote w h v → PlayCame x recent p v true (IsTellingOf (x.cast).layout c)
tells_come x recent p w c h v a W b N e o s = let r = told_so x recent p w c h v a W b N e o s in (r.0, r.1, own_telling x c r.0 r.1, r.2, r.3)

pub none_told : (x : PlayCast) (recent : ℕ) (p : Play) (w : World) (c : ℕ) (a : Component) → IsPlayWorld x recent p w → slice_get w.components (script_place x.cast c) ≡ Some a → a.client_out ≡ false → is_empty a.notes ≡ true
    → CanNone (x.cast).layout p (IsTellingOf (x.cast).layout c)
none_told x recent p w c a W e o n act T C = elim (queued_so x recent p w c a act W e T C) [
  | inl t ↦ let f : true ≡ false = sym t ∙ o in absurd cc
  | inr t ↦ let f : true ≡ false = sym n ∙ t in absurd cc
]

-- ---- steps

pub none_claimed : (x : PlayCast) (recent : ℕ) (p : Play) (w : World) (c : ℕ) (h : Handle) (result : Result Claimed OmxError) (v : World) (a : Component) → IsPlayWorld x recent p w → c < components_of x.cast → Names x.cast w c h
    → slice_get w.components (script_place x.cast c) ≡ Some a → a.work ≡ None → Claim w h result v → ((work : WorkSeen) → result ≡ Ok (ClaimedWork work) → ⊥) → CanNone (x.cast).layout p (IsStepOf (x.cast).layout c)
none_claimed x recent p w c h result v a W b N e f s never (Step d n last) T C =
    let g = claim_accepted x recent p w d n last h result v a W C (subst (λ (k : ℕ). Names x.cast w k h) (sym T) N) (ap (λ (k : ℕ). slice_get w.components (script_place x.cast k)) T ∙ e) f s in
    never g.0 g.1
none_claimed x recent p w c h result v a W b N e f s never (Announce l) T C =
    let g = announce_claimed x recent p w l h result v a W C (subst (λ (k : ℕ). Names x.cast w k h) (sym T) N) (ap (λ (k : ℕ). slice_get w.components (script_place x.cast k)) T ∙ e) f s in
    never g.0 g.1
none_claimed x recent p w c h result v a W b N e f s never Begin T C = absurd T
none_claimed x recent p w c h result v a W b N e f s never (Send d) T C = absurd T
none_claimed x recent p w c h result v a W b N e f s never (Run d) T C = absurd T
none_claimed x recent p w c h result v a W b N e f s never (Happen d) T C = absurd T
none_claimed x recent p w c h result v a W b N e f s never (Tell d) T C = absurd T
none_claimed x recent p w c h result v a W b N e f s never (TellEnd d) T C = absurd T
none_claimed x recent p w c h result v a W b N e f s never (Supply l) T C = absurd T
none_claimed x recent p w c h result v a W b N e f s never (Release l) T C = absurd T
none_claimed x recent p w c h result v a W b N e f s never (HandOver l) T C = absurd T
none_claimed x recent p w c h result v a W b N e f s never (HandBack l) T C = absurd T
none_claimed x recent p w c h result v a W b N e f s never (HandUnused l) T C = absurd T
none_claimed x recent p w c h result v a W b N e f s never (TellSettings l) T C = absurd T
none_claimed x recent p w c h result v a W b N e f s never (Conduct l) T C = absurd T
none_claimed x recent p w c h result v a W b N e f s never (RunPort l o) T C = absurd T
none_claimed x recent p w c h result v a W b N e f s never (HappenPort l o) T C = absurd T
none_claimed x recent p w c h result v a W b N e f s never (TellPort l o) T C = absurd T

pub finishes_come : (x : PlayCast) (recent : ℕ) (p : Play) (w : World) (c : ℕ) (a : Component) (work : Work) (done : WorkDone) (v : World) → IsPlayWorld x recent p w → c < components_of x.cast
    → slice_get w.components (script_place x.cast c) ≡ Some a → a.work ≡ Some work → done.component ≡ script_place x.cast c → IsDoneOf w a work done → done.fault ≡ None → Finish w done v → PlayCame x recent p v true (IsStepOf (x.cast).layout c)
finishes_come x recent p w c a work done v W b e f k D z s = either work.announces
    (λ t. let r = announce_finished x recent p w c a work done v W b e f t k D s in (Act.Announce r.0, r.1, tt, r.2, r.3))
    (λ t. let r = finish_leads x recent p w c a work done v W b e f t k D z s in (Act.Step c done.frames r.0, refl, tt, r.1, r.2))

-- ---- links

pub supplies_come : (x : PlayCast) (recent : ℕ) (p : Play) (w : World) (l : ℕ) (h : Handle) (result : Result Acted CallError) (v : World) → IsPlayWorld x recent p w → l < links_of x.cast → Names x.cast w (supplier (x.cast).layout l) h
    → flow.Supply w h (home_at x.cast l).port result v → PlayCame x recent p v (is_did result) (IsAct (Act.Supply l))
supplies_come x recent p w l h result v W b N s = one_came x recent p v (Act.Supply l) result tt (λ C. supply_leads x recent p w l h result v W C N s) (supply_can x recent p w l h result v W b N s)

pub releases_come : (x : PlayCast) (recent : ℕ) (p : Play) (w : World) (l : ℕ) (h : Handle) (result : Result Acted OmxError) (v : World) → IsPlayWorld x recent p w → l < links_of x.cast → Names x.cast w (supplier (x.cast).layout l) h
    → flow.Release w h (home_at x.cast l).port result v → PlayCame x recent p v (is_did result) (IsAct (Act.Release l))
releases_come x recent p w l h result v W b N s = one_came x recent p v (Act.Release l) result tt (λ C. release_leads x recent p w l h result v W C N s) (release_can x recent p w l h result v W b N s)

pub overs_come : (x : PlayCast) (recent : ℕ) (p : Play) (w : World) (l : ℕ) (h : Handle) (result : Result Acted OmxError) (v : World) → IsPlayWorld x recent p w → l < links_of x.cast → Names x.cast w (supplier (x.cast).layout l) h
    → flow.HandOver w h (home_at x.cast l).port result v → PlayCame x recent p v (is_did result) (IsAct (Act.HandOver l))
overs_come x recent p w l h result v W b N s = one_came x recent p v (Act.HandOver l) result tt (λ C. over_leads x recent p w l h result v W C N s) (over_can x recent p w l h result v W b N s)

back_accepted : (x : PlayCast) (recent : ℕ) (p : Play) (w : World) (l : ℕ) (h : Handle) (result : Result Acted OmxError) (v : World) → IsPlayWorld x recent p w → Names x.cast w (other_component (x.cast).layout l) h
    → flow.HandBack w h (away_at x.cast l).port result v → (a : Act) → IsBackOf l a → CanAct (x.cast).layout p a → result ≡ Ok Did
back_accepted x recent p w l h result v W N s (HandBack k) e C = subst (λ (j : ℕ). CanAct (x.cast).layout p (Act.HandBack j) → result ≡ Ok Did) (sym e) (λ D. (back_leads x recent p w l h result v W D N s).0) C
back_accepted x recent p w l h result v W N s (HandUnused k) e C = subst (λ (j : ℕ). CanAct (x.cast).layout p (Act.HandUnused j) → result ≡ Ok Did) (sym e) (λ D. (unused_leads x recent p w l h result v W D N s).0) C
back_accepted x recent p w l h result v W N s Begin e C = absurd e
back_accepted x recent p w l h result v W N s (Send d) e C = absurd e
back_accepted x recent p w l h result v W N s (Run d) e C = absurd e
back_accepted x recent p w l h result v W N s (Happen d) e C = absurd e
back_accepted x recent p w l h result v W N s (Tell d) e C = absurd e
back_accepted x recent p w l h result v W N s (TellEnd d) e C = absurd e
back_accepted x recent p w l h result v W N s (Supply k) e C = absurd e
back_accepted x recent p w l h result v W N s (Release k) e C = absurd e
back_accepted x recent p w l h result v W N s (HandOver k) e C = absurd e
back_accepted x recent p w l h result v W N s (Announce k) e C = absurd e
back_accepted x recent p w l h result v W N s (TellSettings k) e C = absurd e
back_accepted x recent p w l h result v W N s (Conduct k) e C = absurd e
back_accepted x recent p w l h result v W N s (RunPort k o) e C = absurd e
back_accepted x recent p w l h result v W N s (HappenPort k o) e C = absurd e
back_accepted x recent p w l h result v W N s (TellPort k o) e C = absurd e
back_accepted x recent p w l h result v W N s (Step d n last) e C = absurd e

pub backs_come : (x : PlayCast) (recent : ℕ) (p : Play) (w : World) (l : ℕ) (h : Handle) (result : Result Acted OmxError) (v : World) → IsPlayWorld x recent p w → l < links_of x.cast → Names x.cast w (other_component (x.cast).layout l) h
    → flow.HandBack w h (away_at x.cast l).port result v → PlayCame x recent p v (is_did result) (IsBackOf l)
backs_come x recent p w l h (Ok Did) v W b N s = either (is_empty ((seen w.headers).done (away_at x.cast l)))
    (λ t. let C = unused_can x recent p w l h (Ok Did) v W b N s refl t in (Act.HandUnused l, refl, tt, C, (unused_leads x recent p w l h (Ok Did) v W C N s).1))
    (λ f. let C = back_can x recent p w l h (Ok Did) v W b N s refl f in (Act.HandBack l, refl, tt, C, (back_leads x recent p w l h (Ok Did) v W C N s).1))
backs_come x recent p w l h (Ok (Idle why)) v W b N s = λ a e C. let r = back_accepted x recent p w l h (Ok (Idle why)) v W N s a e C in absurd cc
backs_come x recent p w l h (Err z) v W b N s = λ a e C. let r = back_accepted x recent p w l h (Err z) v W N s a e C in absurd cc
