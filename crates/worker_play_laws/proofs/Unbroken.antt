-- Where no part has failed at the end of a play, no step of it has.
use Rattle.std.proofs.Common.{◌≡◌, ℕ, ◌<◌, All, List, [], ◌∷◌, length, Option, Some, None, refl, sym, subst, arith}
use Rattle.std.proofs.lemmas.List.Elements.{All-cons, All-head, All-nil, All-tail}
use Rattle.omx_types.specs.declared.fault.PartFault.{PartFault}
use Rattle.omx_types.specs.declared.handle.Handle.{Handle}
use Rattle.il_machine.specs.Acts.{Act, Reply}
use Rattle.il_machine.specs.Acts as acts
use Rattle.il_machine.specs.Run.{Meets, Run, Step}
use Rattle.il_machine.specs.Sound.{Sound}
use Rattle.il_machine.specs.World.{World}
use Rattle.machine_laws.proofs.Steps.{sound_step}
use Rattle.board.proofs.Failing.{HasFailed, failed_still, fails_so}
use Rattle.play_history_laws.specs.Faults.{NoneFailed}
use Rattle.play_history_laws.proofs.StreamsKept.{in_place}
use Rattle.play_forms.specs.Plans.{PlanValue}
use Rattle.play_history_laws.specs.Order.{Cursor}
use Rattle.play_log.specs.Entries.{Entry, steps_of}
use Rattle.play_log.specs.Naming.{IsUnbroken}
use Rattle.play_plan_laws.specs.Assemblies.{PlayFiles, play_cast_of}
use Rattle.play_world_laws.proofs.Lists.{get_there}
use Rattle.play_history_laws.specs.Askings.{IsPlanHistory}
use Rattle.play_history_laws.proofs.Askings.{come, many_now}

-- a work that comes back is that of one of so many components
abbrev pub IsBelow : ℕ → Act → Type 0
IsBelow many (acts.Finish done) = done.component < many
IsBelow many other = Unit {0}

failed_on : (n : ℕ) (steps : List (Act × Reply)) (w v : World) → Sound w → Run w steps v → HasFailed n w → HasFailed n v
failed_on n [] w v S r F = subst (HasFailed n) (sym r) F
failed_on n (x ∷ xs) w v S (mid, M, s, r) F = failed_on n xs mid v (sound_step w mid x.0 x.1 M s S) r (failed_still n w x.0 x.1 mid S M s F)

module _ (many : ℕ) (v : World) (never : (n : ℕ) → n < many → HasFailed n v → ⊥) where
  one : (w mid : World) (steps : List (Act × Reply)) (a : Act) (r : Reply) → Sound w → Meets w a → Step w a r mid → Run mid steps v → IsBelow many a → IsUnbroken a
  one w mid steps (acts.Finish done) acts.Finished S M s rest b = by done.fault refl
    where
      by : (o : Option PartFault) → done.fault ≡ o → done.fault ≡ None
      by None e = e
      by (Some fault) e = absurd (never done.component b (failed_on done.component steps mid v (sound_step w mid (acts.Finish done) acts.Finished M s S) rest (fails_so w done fault mid S M s e)))
  one w mid steps (acts.Finish done) _ S M s rest b = absurd s
  one w mid steps _ r S M s rest b = tt

  pub all_unbroken : (entries : List Entry) (w : World) → Sound w → Run w (steps_of entries) v → All (λ e. IsBelow many e.act) entries → All (λ e. IsUnbroken e.act) entries
  all_unbroken [] w S r B = All-nil (λ (e : Entry). IsUnbroken e.act)
  all_unbroken (entry ∷ entries) w S (mid, M, s, rest) B = All-cons (λ (e : Entry). IsUnbroken e.act) entry entries
      (one w mid (steps_of entries) entry.act entry.reply S M s rest (All-head (λ (e : Entry). IsBelow many e.act) entry entries B))
      (all_unbroken entries mid (sound_step w mid entry.act entry.reply M s S) rest (All-tail (λ (e : Entry). IsBelow many e.act) entry entries B))

-- each component of the plan stands at the place of its number
pub none_failed : (plan : PlanValue) (files : PlayFiles) (handles : List Handle) (w : World) (steps : List (Act × Reply)) (cursor : Cursor) (v : World) → IsPlanHistory plan files handles w steps cursor v → NoneFailed v
    → (n : ℕ) → n < length plan.parts → HasFailed n v → ⊥
none_failed plan files handles w steps cursor v G whole n b F =
    let m = many_now plan files handles w steps cursor v G in
    let c = get_there v.components n (omega (arith, b, m)) in
    let D = come plan files handles w steps cursor v G in
    let number = in_place (play_cast_of plan) cursor D.recent D.now D.later v (((D.faulty).taken).played) n c.0 c.1 in
    let failed = (F.all n c.0 c.1 number).0 in
    let fine = whole n c.0 c.1 in
    absurd cc
