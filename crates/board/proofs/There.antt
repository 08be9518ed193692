-- The file of a component stays: it is in the graph while the component's work isn't out, and else with the work.
use Rattle.std.proofs.Common.{◌≡◌, ◌⊎◌, inl, inr, ℕ, nat_eq, Bool, true, false, List, [], ◌∷◌, All, Option, Some, None, MatchOption, is_some, Ok, Err, if◌then◌else◌, refl, sym, ◌∙◌, ap, subst, eqb-true, ne_eqb}
use Rattle.std.specs.Prelude.{option_and_then}
use Rattle.std.proofs.lemmas.Bool.{eqb-false}
use Rattle.std.proofs.lemmas.List.Elements.{All-head, All-tail}
use Rattle.omx_types.specs.declared.handle.Handle.{Handle}
use Rattle.il_machine.specs.Acts as acts
use Rattle.il_machine.specs.Claims as machine
use Rattle.il_machine.specs.Claims.{ClaimedWork, WorkSeen}
use Rattle.il_machine.specs.Run.{Meets, Run, Step}
use Rattle.il_machine.specs.Sound.{Sound}
use Rattle.il_machine.specs.Stepping.{IsDoneOf, WorkDone}
use Rattle.il_machine.specs.World.{Component, Stream, World, component_numbered}
use Rattle.machine_laws.proofs.Finding.{either}
use Rattle.machine_laws.proofs.Keys.{there_is}
use Rattle.machine_laws.proofs.Steps.{sound_step}
use Rattle.history_laws.specs.Works.{IsHeldOut, has_work_out, returns_work, takes_work}
use Rattle.history_laws.proofs.Freed.{none_before, none_comes, none_left}
use Rattle.history_laws.proofs.HeldOut.{claims_held, steps_held}
use Rattle.audio_parts.specs.Objects.{BothOrNone, FileStays, Held, SinkStays, SourceStays}
use Rattle.audio_parts.specs.Shown.{held_in}
use Rattle.audio_parts.specs.declared.part_file.PartFile.{PartFile}
use Rattle.il_flow.specs.Works.{seen_done, seen_work}
use Rattle.turnstile.specs.declared.entry.Entry.{Entry}
use Rattle.graph_acts.specs.declared.act.Act.{Act}
use Rattle.graph_acts.specs.declared.act.Act.TheVariants as asks
use Rattle.graph_acts.specs.declared.act.Reply.{Reply}
use Rattle.graph_acts.specs.declared.act.Reply.TheVariants as replies
use Rattle.graph_acts.specs.declared.claimed.LentClaim.TheVariants as claimed
use Rattle.graph_acts.specs.Objects.{BringsIts, GiveThem, GivesThem, clients_after, files_after, files_by, none_seen, parts_after}
use Rattle.graph_acts.specs.Plain.{Sight, Unsaid, plain_act, plain_reply}
use Rattle.graph_acts.specs.Working.{IsFurther}
use Rattle.board.specs.Asking.{ArePlain}
use Rattle.board.specs.Files.{is_steady}

-- a work that comes back is out
is_out : (w : World) (done : WorkDone) → Meets w (acts.Finish done) → has_work_out done.component w ≡ true
is_out w done M =
    let c = there_is (component_numbered done.component w) (λ (c : Component). MatchOption c.work ⊥ (λ work. IsDoneOf w c work done)) M in
    let work = there_is (c.0).work (λ work. IsDoneOf w c.0 work done) c.2 in
    ap (λ (o : Option Component). is_some (option_and_then (λ (c : Component). c.work) o)) c.1 ∙ ap is_some work.1

held_is_out : (w : World) (x : WorkSeen) (s : Stream) → IsHeldOut w x s → has_work_out x.component w ≡ true
held_is_out w x s H = ap (λ (o : Option Component). is_some (option_and_then (λ (c : Component). c.work) o)) H.there ∙ ap is_some H.out

module _ {S K C : Type 0} (see : Sight S K C) (number : ℕ) where
  abbrev IsIn : World → Option (PartFile S K) → Type 0
  IsIn w file = (is_some file ≡ true) × (has_work_out number w ≡ false)

  abbrev IsOut : World → Held S K → Type 0
  IsOut w part = (is_some part.file ≡ true) × ((x : WorkSeen) × (s : Stream) × IsHeldOut w x s × (x.component ≡ number))

  abbrev IsKept : World → Option (PartFile S K) → Held S K → Type 0
  IsKept w file part = IsIn w file ⊎ IsOut w part

  -- by an act that is no claim and no finish of the component
  else_kept : (w : World) (a : acts.Act) (r : acts.Reply) (v : World) (file : Option (PartFile S K)) (part : Held S K) → Sound w → Meets w a → Step w a r v
      → takes_work number a r ≡ false → returns_work number a r ≡ false → IsKept w file part → IsKept v file part
  else_kept w a r v file part sound M s t b (inl (f, n)) = inl (f, none_comes w a r v number sound M s t n)
  else_kept w a r v file part sound M s t b (inr (f, (x, st, H, e))) = inr (f, (x, st, steps_held w a r v x st sound M s (ap (λ (n : ℕ). returns_work n a r) e ∙ b) H, e))

  abbrev Both : Bool → Option (PartFile S K) → Option (PartFile S K) → Type 0
  Both failed before now = BothOrNone (FileStays (SourceStays see.reads.name see.reads.size see.reads.told see.reads.ends see.reads.offset see.reads.faults failed) (SinkStays see.writes.name see.writes.faults)) before now

  both_there : (failed : Bool) (o p : Option (PartFile S K)) → Both failed o p → is_some o ≡ true → is_some p ≡ true
  both_there failed None p B t = absurd cc
  both_there failed (Some x) None B t = absurd B
  both_there failed (Some x) (Some y) B t = refl

  still_there : (before now : Held S K) → IsFurther see.reads see.writes before now → is_some before.file ≡ true → is_some now.file ≡ true
  still_there before now F t = both_there now.failed before.file now.file F.1 t

  module _ (u : Unsaid) (w v : World) (sound : Sound w) (clients : Handle → Option C) (files : ℕ → Option (PartFile S K)) (parts : ℕ → Held S K) where
    act_kept : (a : Act S K C) (r : Reply S K C) → Meets w (plain_act see u a) → Step w (plain_act see u a) (plain_reply u r) v → GivesThem clients files a r → BringsIts see parts a → is_steady a ≡ true
        → IsKept w (files number) (parts number) → IsKept v (files_after a r files number) (parts_after a r parts number)
    act_kept (asks.GetHandle name client) r M s G B t J = absurd cc
    act_kept (asks.FreeHandle h) r M s G B t J = absurd cc
    act_kept (asks.Attach h file) r M s G B t J = absurd cc
    act_kept (asks.Claim h) (replies.Claim (Ok (claimed.Work work))) M s G B t J =
        let n : work.component.generation ≡ h.generation = ap (λ (k : Handle). k.generation) G.0 in
        let a : acts.Act = acts.Claim h in
        let seen : WorkSeen = seen_work u.terms work in
        let r : acts.Reply = acts.Claimed (Ok (ClaimedWork seen)) in
        let P : Bool × Bool → Type 0 = λ b. IsKept v (if b.0 then None else files number) (if b.1 then held_in work.part else parts number) in
        either (nat_eq number h.generation)
        (λ e.
        let is : number ≡ h.generation = eqb-true number h.generation e in
        let here : seen.component ≡ number = n ∙ sym is in
        let H = claims_held w h seen v sound s in
        let its : is_some (work.part).file ≡ true = elim J [
          | inl J0 ↦ ap is_some G.1 ∙ (ap (λ (m : ℕ). is_some (files m)) (sym is) ∙ J0.0)
          | inr J1 ↦
              let z : true ≡ false = sym (held_is_out w J1.1.0 J1.1.1 J1.1.2) ∙ (ap (λ (m : ℕ). has_work_out m w) (J1.1.3 ∙ sym here) ∙ none_before w h seen v sound s) in
              absurd cc
        ] in
        let both : nat_eq number work.component.generation ≡ true = ap (nat_eq number) n ∙ e in
        subst P (λ i. (sym e i, sym both i)) (inr (its, (seen, H.0, H.2, here))))
        (λ f.
        let takes : takes_work number a r ≡ false = ne_eqb h.generation number (λ e. eqb-false number h.generation f (sym e)) in
        let both : nat_eq number work.component.generation ≡ false = ap (nat_eq number) n ∙ f in
        subst P (λ i. (sym f i, sym both i)) (else_kept w a r v (files number) (parts number) sound M s takes refl J))
    act_kept (asks.Claim h) (replies.Claim (Ok claimed.Busy)) M s G B t J = else_kept w (acts.Claim h) (acts.Claimed (Ok machine.ClaimedBusy)) v (files number) (parts number) sound M s refl refl J
    act_kept (asks.Claim h) (replies.Claim (Ok claimed.NotRunning)) M s G B t J = else_kept w (acts.Claim h) (acts.Claimed (Ok machine.ClaimedNotRunning)) v (files number) (parts number) sound M s refl refl J
    act_kept (asks.Claim h) (replies.Claim (Ok claimed.Ended)) M s G B t J = else_kept w (acts.Claim h) (acts.Claimed (Ok machine.ClaimedEnded)) v (files number) (parts number) sound M s refl refl J
    act_kept (asks.Claim h) (replies.Claim (Ok (claimed.Held port))) M s G B t J = else_kept w (acts.Claim h) (acts.Claimed (Ok (machine.ClaimedHeld port))) v (files number) (parts number) sound M s refl refl J
    act_kept (asks.Claim h) (replies.Claim (Ok (claimed.NoData port))) M s G B t J = else_kept w (acts.Claim h) (acts.Claimed (Ok (machine.ClaimedNoData port))) v (files number) (parts number) sound M s refl refl J
    act_kept (asks.Claim h) (replies.Claim (Ok (claimed.NoRoom port))) M s G B t J = else_kept w (acts.Claim h) (acts.Claimed (Ok (machine.ClaimedNoRoom port))) v (files number) (parts number) sound M s refl refl J
    act_kept (asks.Claim h) (replies.Claim (Ok (claimed.Events room need))) M s G B t J = else_kept w (acts.Claim h) (acts.Claimed (Ok (machine.ClaimedEvents room need))) v (files number) (parts number) sound M s refl refl J
    act_kept (asks.Claim h) (replies.Claim (Err e)) M s G B t J = else_kept w (acts.Claim h) (acts.Claimed (Err e)) v (files number) (parts number) sound M s refl refl J
    act_kept (asks.Claim h) _ M s G B t J = absurd s
    act_kept (asks.Finish done) replies.Finish M s G B t J =
        let n = done.component.generation in
        let its : acts.Act = acts.Finish (seen_done u.took done) in
        let P : Bool → Type 0 = λ b. IsKept v (if b then (done.part).file else files number) (if b then held_in done.part else parts number) in
        let out = is_out w (seen_done u.took done) M in
        either (nat_eq number n)
        (λ e.
        let is = eqb-true number n e in
        let now : is_some (done.part).file ≡ true = elim J [
          | inl J0 ↦ let z : false ≡ true = sym J0.1 ∙ (ap (λ (m : ℕ). has_work_out m w) is ∙ out) in absurd cc
          | inr J1 ↦ still_there (parts n) (held_in done.part) B.0 (subst (λ (m : ℕ). is_some (parts m).file ≡ true) is J1.0)
        ] in
        subst P (sym e) (inl (now, ap (λ (m : ℕ). has_work_out m v) is ∙ none_left w (seen_done u.took done) v sound M s)))
        (λ f.
        let back : returns_work number its acts.Finished ≡ false = ne_eqb n number (λ e. eqb-false number n f (sym e)) in
        subst P (sym f) (else_kept w its acts.Finished v (files number) (parts number) sound M s refl back J))
    act_kept (asks.Finish done) _ M s G B t J = absurd s
    act_kept a r M s G B t J = else_kept w (plain_act see u a) (plain_reply u r) v (files number) (parts number) sound M s refl refl J

  -- ---- along a history

  all_kept : (log : List (Entry (Act S K C) (Reply S K C))) (xs : List (acts.Act × acts.Reply)) (w v : World) (clients : Handle → Option C) (files : ℕ → Option (PartFile S K)) (parts : ℕ → Held S K)
      → Sound w → ArePlain see log xs → Run w xs v → GiveThem see clients files parts log → All (λ e. is_steady e.act ≡ true) log → has_work_out number v ≡ false → IsKept w (files number) (parts number) → is_some (files_by files log number) ≡ true
  all_kept [] [] w v clients files parts sound A R G T f (inl J) = J.0
  all_kept [] [] w v clients files parts sound A R G T f (inr (t, (x, s, H, e))) =
      let z : true ≡ false = sym (held_is_out w x s H) ∙ (ap (λ (n : ℕ). has_work_out n w) e ∙ (ap (has_work_out number) (sym R) ∙ f)) in
      absurd cc
  all_kept [] (y ∷ xs) w v clients files parts sound A R G T f J = absurd A
  all_kept (x ∷ log) [] w v clients files parts sound A R G T f J = absurd A
  all_kept (x ∷ log) (y ∷ xs) w v clients files parts sound A (mid, M, s, R) G T f J =
      let P : Entry (Act S K C) (Reply S K C) → Type 0 = λ e. is_steady e.act ≡ true in
      let M' = subst (λ (z : acts.Act × acts.Reply). Meets w z.0) A.0.1 M in
      let s' = subst (λ (z : acts.Act × acts.Reply). Step w z.0 z.1 mid) A.0.1 s in
      all_kept log xs mid v (clients_after x.act x.reply clients) (files_after x.act x.reply files) (parts_after x.act x.reply parts) (sound_step w mid y.0 y.1 M s sound) A.1 R G.2 (All-tail P x log T) f
      (act_kept A.0.0 w mid sound clients files parts x.act x.reply M' s' G.0 G.1 (All-head P x log T) J)

  -- from where no work is out to where none is
  pub still_filed : (log : List (Entry (Act S K C) (Reply S K C))) (xs : List (acts.Act × acts.Reply)) (w v : World) (clients : Handle → Option C) (files : ℕ → Option (PartFile S K))
      → Sound w → ArePlain see log xs → Run w xs v → GiveThem see clients files none_seen log → All (λ e. is_steady e.act ≡ true) log → has_work_out number w ≡ false → has_work_out number v ≡ false → is_some (files number) ≡ true
      → is_some (files_by files log number) ≡ true
  still_filed log xs w v clients files sound A R G T n f t = all_kept log xs w v clients files none_seen sound A R G T f (inl (t, n))
