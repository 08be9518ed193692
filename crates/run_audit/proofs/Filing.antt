-- Each file stays where a line's act hands something out.
use Rattle.std.proofs.Common.{◌≡◌, ◌<◌, ℕ, List, Option, Some, None, IfSome, Result, Ok, Err, length, nat_eq, slice_get, refl, sym, ◌∙◌, ap, subst, Bool}
use Rattle.omx_types.specs.declared.error.OmxError.{OmxError}
use Rattle.omx_types.specs.declared.handle.Handle.{Handle}
use Rattle.il_machine.specs.World.{World}
use Rattle.act_text.specs.declared.text.ActText.{ActText}
use Rattle.play_forms.specs.Plans.{PlanValue}
use Rattle.audio_parts.specs.Shown.{ShownPart}
use Rattle.audio_parts.specs.declared.part_file.PartFile.{PartFile}
use Rattle.graph_core.specs.Clients.{IsOut}
use Rattle.il_flow.specs.Works.{WorkOf}
use Rattle.il_graph.specs.Shown.{Shown}
use Rattle.il_graph.specs.Shown as graphs
use Rattle.compared_files.specs.Comparing.{ComparingValue}
use Rattle.graph_acts.specs.declared.act.Act.{Act}
use Rattle.graph_acts.specs.declared.act.Act.TheVariants as asks
use Rattle.graph_acts.specs.declared.act.Reply.{Reply}
use Rattle.graph_acts.specs.declared.act.Reply.TheVariants as replies
use Rattle.graph_acts.specs.declared.claimed.LentClaim.{LentClaim}
use Rattle.graph_acts.specs.declared.claimed.LentClaim.TheVariants as claimed
use Rattle.graph_acts.specs.Holding.{IsGone}
use Rattle.graph_acts.specs.Objects.{MovesObjects, file_moved, files_in, with_at}
use Rattle.graph_acts.specs.Plain.{Sight}
use Rattle.audit_forms.specs.Audited.{Case}
use Rattle.run_audit.specs.Answering.{IsReplyOf}
use Rattle.run_audit.specs.Files.{file_with}
use Rattle.run_audit.specs.Keeping.{claimed_in, with_thing, work_in}
use Rattle.run_audit.specs.Replaying.{IsStanding}
use Rattle.run_audit.proofs.Files.{file_out}
use Rattle.run_audit.proofs.Lifting.{claim_free}
use Rattle.run_audit.proofs.Quiet.{IsClaimPair, IsStill, IsTakePair}

module _ {S C : Type 0} (old new : Shown S (ComparingValue S) C) where
  abbrev Works : Type 0
  Works = List (Option (WorkOf (ShownPart S (ComparingValue S))))

  abbrev File : Type 0
  File = Option (PartFile S (ComparingValue S))

  -- each file is where it was, by these lists of works
  abbrev pub StayFiles : Works → Works → Type 0
  StayFiles works works' = (j : ℕ) → file_with (slice_get works' j) (files_in new j) ≡ file_with (slice_get works j) (files_in old j)

  files_there : (act : Act S (ComparingValue S) C) (reply : Reply S (ComparingValue S) C) → MovesObjects act reply old new → file_moved act reply ≡ None → (j : ℕ) → files_in new j ≡ files_in old j
  files_there act reply M e j = M.files j ∙ ap (λ (m : Option (ℕ × File)). with_at nat_eq m (files_in old) j) e

  pub files_stay : (act : Act S (ComparingValue S) C) (reply : Reply S (ComparingValue S) C) → MovesObjects act reply old new → file_moved act reply ≡ None → (works works' : Works) → works' ≡ works → StayFiles works works'
  files_stay act reply M e works works' same j =
      ap (λ (l : Works). file_with (slice_get l j) (files_in new j)) same ∙ ap (file_with (slice_get works j)) (files_there act reply M e j)

  module _ (h : Handle) (place : ℕ) (number : h.generation ≡ place) (works : Works) where
    claimed_stay : (result : Result (LentClaim S (ComparingValue S)) OmxError) → MovesObjects (asks.Claim h) (replies.Claim result) old new → IfSome (claimed_in result) (λ work. slice_get works place ≡ Some None)
        → StayFiles works (with_thing place (claimed_in result) works)
    claimed_stay (Ok (claimed.Work work)) M free =
        file_out works place work (files_in old) (files_in new) free ((M.given).1 ∙ ap (files_in old) number)
        (λ n. M.files n ∙ ap (λ (k : ℕ). with_at nat_eq (Some (k, None)) (files_in old) n) number)
    claimed_stay (Ok claimed.Busy) M free = files_stay _ _ M refl works works refl
    claimed_stay (Ok claimed.NotRunning) M free = files_stay _ _ M refl works works refl
    claimed_stay (Ok claimed.Ended) M free = files_stay _ _ M refl works works refl
    claimed_stay (Ok (claimed.Held port)) M free = files_stay _ _ M refl works works refl
    claimed_stay (Ok (claimed.NoData port)) M free = files_stay _ _ M refl works works refl
    claimed_stay (Ok (claimed.NoRoom port)) M free = files_stay _ _ M refl works works refl
    claimed_stay (Ok (claimed.Events room need)) M free = files_stay _ _ M refl works works refl
    claimed_stay (Err e) M free = files_stay _ _ M refl works works refl

module _ {S C : Type 0} (see : Sight S (ComparingValue S) C) (old new : Shown S (ComparingValue S) C) (plan : PlanValue) (handles : List Handle) (works works' : List (Option (WorkOf (ShownPart S (ComparingValue S))))) (clients clients' : List (Option C))
    (said : ActText) (reply : Reply S (ComparingValue S) C) (R : IsReplyOf see old new plan.parts handles said reply) (out : (h : Handle) → IsGone new h → IsOut h (graphs.look_of new)) where
  pub still_files : IsStill see R.act reply → works' ≡ works → StayFiles old new works works'
  still_files Q e = files_stay old new R.act reply (R.moved).objects Q.file works works' e

  module _ (h : Handle) where
    pub take_files : IsTakePair see h R.act reply → works' ≡ works → StayFiles old new works works'
    take_files P e =
        let M = subst (λ (r : Reply S (ComparingValue S) C). MovesObjects (asks.TakeNote h) r old new) P.reply_is (subst (λ (a : Act S (ComparingValue S) C). MovesObjects a reply old new) P.act_is (R.moved).objects) in
        files_stay old new (asks.TakeNote h) (replies.TakeNote P.result) M refl works works' e

    pub claim_files : (place : ℕ) → slice_get handles place ≡ Some h → IsClaimPair see h R.act reply → place < length works → works' ≡ with_thing place (work_in reply) works → (tells : Bool) (x : Case) (w : World) → IsStanding see tells old plan handles works clients x w
        → StayFiles old new works works'
    claim_files place its P l e tells x w I =
        let M = subst (λ (r : Reply S (ComparingValue S) C). MovesObjects (asks.Claim h) r old new) P.reply_is (subst (λ (a : Act S (ComparingValue S) C). MovesObjects a reply old new) P.act_is (R.moved).objects) in
        let free = claim_free see old new plan handles works works' clients clients' said reply R out place h its P tells x w I l in
        let free_so = subst (λ (r : Reply S (ComparingValue S) C). IfSome (work_in r) (λ work. slice_get works place ≡ Some None)) P.reply_is free in
        let is : works' ≡ with_thing place (claimed_in P.result) works = e ∙ ap (λ (r : Reply S (ComparingValue S) C). with_thing place (work_in r) works) P.reply_is in
        subst (StayFiles old new works) (sym is) (claimed_stay old new h place (I.numbers place h its) works P.result M free_so)
