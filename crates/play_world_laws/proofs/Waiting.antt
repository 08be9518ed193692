-- No late source that doesn't run yet has announced anything.
use Rattle.std.proofs.Common.{◌≡◌, inl, inr, ℕ, ◌≤◌, Bool, true, false, refl, sym, ◌∙◌, ap, subst, arith}
use Rattle.std.proofs.lemmas.Bool.{cases_eq}
use Rattle.play_model.specs.Acts.{Act, CanAct, acted, with_change, with_stage}
use Rattle.play_model.specs.Acts.Act.{Begin, Send, Run, Happen, Tell, TellEnd, Supply, Release, HandOver, HandBack, HandUnused, Announce, TellSettings, Conduct, RunPort, HappenPort, TellPort, Step}
use Rattle.play_model.specs.Changes.{Change, conducted, port_on, told_on}
use Rattle.play_model.specs.Play.{Layout, Play}
use Rattle.play_model.specs.Reached.{IsBegun, IsReached}
use Rattle.play_world_laws.proofs.Sends.{stage_else, stage_here}
use Rattle.play_world_laws.proofs.Around.{change_else, change_here}
use Rattle.play_world_laws.specs.Waiting.{IsWaiting}

pub waits_first : (w : Layout) (p : Play) → IsBegun w p → IsWaiting w p
waits_first w p B l b t e s = ap (λ (k : Change). k.step) (B.unchanged l)

-- a component goes on to a later stage
stage_on : (w : Layout) (p : Play) (c n : ℕ) → IsWaiting w p → (n ≤ 2 → p.stage c ≤ 2) → IsWaiting w (with_stage c n p)
stage_on w p c n W h l b t e s = elim (cases_eq ((w.network).giver l) c) [
  | inl g ↦
      let q : Play = with_stage c n p in
      let m : n ≤ 2 = subst (λ (k : ℕ). k ≤ 2) (ap q.stage g ∙ stage_here p c n) s in
      W l b t e (subst (λ (k : ℕ). p.stage k ≤ 2) (sym g) (h m))
  | inr g ↦ W l b t e (subst (λ (k : ℕ). k ≤ 2) (stage_else p c ((w.network).giver l) n g) s)
]

-- a change goes on
change_on : (w : Layout) (p : Play) (l : ℕ) (g : Change → Change) → IsWaiting w p → (p.phase ≡ 2 → p.stage ((w.network).giver l) ≤ 2 → (g (p.change l)).step ≡ 0) → IsWaiting w (with_change l g p)
change_on w p l g W h k b t e s = elim (cases_eq k l) [
  | inl z ↦
      let m : p.stage ((w.network).giver l) ≤ 2 = subst (λ (j : ℕ). p.stage ((w.network).giver j) ≤ 2) z s in
      let q : Play = with_change l g p in
      subst (λ (j : ℕ). (q.change j).step ≡ 0) (sym z) (ap (λ (y : Change). y.step) (change_here l g p) ∙ h e m)
  | inr z ↦ ap (λ (y : Change). y.step) (change_else l g p k z) ∙ W k b t e s
]

port_stays : (o : Bool) (k : Change) → (port_on o k).step ≡ k.step
port_stays true k = refl
port_stays false k = refl

pub waits_on : (w : Layout) (p : Play) (a : Act) → IsReached w p → CanAct w p a → IsWaiting w p → IsWaiting w (acted w a p)
waits_on w p Begin R C W = λ l b t e s. (R.changes l b).early (omega arith)
waits_on w p (Send c) R C W = stage_on w p c 1 W (λ _. omega (arith, C.1))
waits_on w p (Run c) R C W = stage_on w p c 2 W (λ _. omega (arith, C.1))
waits_on w p (Happen c) R C W = stage_on w p c 3 W (λ h. absurd (omega arith))
waits_on w p (Tell c) R C W = stage_on w p c 4 W (λ h. absurd (omega arith))
waits_on w p (TellEnd c) R C W = W
waits_on w p (Supply l) R C W = W
waits_on w p (Release l) R C W = W
waits_on w p (HandOver l) R C W = W
waits_on w p (HandBack l) R C W = W
waits_on w p (HandUnused l) R C W = W
waits_on w p (Announce l) R C W = change_on w p l told_on W (λ e s. absurd (elim C.2 [ inl h ↦ omega (arith, h.1) | inr h ↦ omega (arith, h.0) ]))
waits_on w p (TellSettings l) R C W = change_on w p l told_on W (λ e s. let z = W l C.0 C.1 e s in absurd (omega (arith, C.3)))
waits_on w p (Conduct l) R C W = change_on w p l conducted W (λ e s. let z = W l C.below C.late e s in absurd (omega (arith, C.told)))
waits_on w p (RunPort l o) R C W = change_on w p l (port_on o) W (λ e s. port_stays o (p.change l) ∙ W l C.0 C.1 e s)
waits_on w p (HappenPort l o) R C W = change_on w p l (port_on o) W (λ e s. port_stays o (p.change l) ∙ W l C.0 C.1 e s)
waits_on w p (TellPort l o) R C W = change_on w p l (port_on o) W (λ e s. port_stays o (p.change l) ∙ W l C.0 C.1 e s)
waits_on w p (Step c n last) R C W = W
