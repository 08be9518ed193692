-- Of a component that has no file, and to which none comes, no step fails.
use Rattle.std.proofs.Common.{◌≡◌, ℕ, nat_eq, Bool, false, List, [], ◌∷◌, All, Option, Some, None, IfSome, Ok, Err, if◌then◌else◌, refl, sym, ◌∙◌, ap, subst, eqb-true}
use Rattle.std.proofs.lemmas.Bool.{eqb-false}
use Rattle.std.proofs.lemmas.List.Elements.{All-cons, All-head, All-nil, All-tail}
use Rattle.omx_types.specs.declared.fault.PartFault.{PartFault}
use Rattle.omx_types.specs.declared.handle.Handle.{Handle}
use Rattle.machine_laws.proofs.Finding.{either}
use Rattle.audio_parts.specs.Objects.{Held}
use Rattle.audio_parts.specs.Shown.{held_in}
use Rattle.audio_parts.specs.declared.part_file.PartFile.{PartFile}
use Rattle.turnstile.specs.declared.entry.Entry.{Entry}
use Rattle.graph_acts.specs.declared.act.Act.{Act}
use Rattle.graph_acts.specs.declared.act.Act.TheVariants as asks
use Rattle.graph_acts.specs.declared.act.Reply.{Reply}
use Rattle.graph_acts.specs.declared.act.Reply.TheVariants as replies
use Rattle.graph_acts.specs.declared.claimed.LentClaim.TheVariants as claimed
use Rattle.graph_acts.specs.Objects.{BringsIts, GiveThem, GivesThem, clients_after, file_moved, files_after, part_seen, parts_after, with_at}
use Rattle.graph_acts.specs.Plain.{Sight}
use Rattle.graph_acts.specs.Working.{IsFaulted, IsFurther}
use Rattle.board.specs.Files.{brings_file, fault_in, held_as}

module _ {S K C : Type 0} (see : Sight S K C) (number : ℕ) where
  -- ---- a part without a file

  none_further : (b c : Bool) (o p : Option (PartFile S K)) → o ≡ None → IsFurther see.reads see.writes (held_as b o) (held_as c p) → p ≡ None
  none_further b c None None e F = refl
  none_further b c None (Some y) e F = absurd F.1
  none_further b c (Some x) p e F = absurd cc

  unshown : (fault : PartFault) (b c : Bool) (o p : Option (PartFile S K)) → o ≡ None → IsFaulted see.reads see.writes fault (held_as b o) (held_as c p) → ⊥
  unshown fault b c None p e G = G.1
  unshown fault b c (Some x) p e G = absurd cc

  faultless : (fault : Option PartFault) (before now : Held S K) → before.file ≡ None → IfSome fault (λ f. IsFaulted see.reads see.writes f before now) → fault ≡ None
  faultless None before now e G = refl
  faultless (Some f) before now e G = absurd (unshown f before.failed now.failed before.file now.file e G)

  -- ---- what an act moves

  put_none : (moved : Option (ℕ × Option (PartFile S K))) (files : ℕ → Option (PartFile S K)) → files number ≡ None → IfSome moved (λ m. number ≡ m.0 → m.1 ≡ None) → with_at nat_eq moved files number ≡ None
  put_none None files e M = e
  put_none (Some m) files e M =
      let P : Bool → Type 0 = λ b. (if b then m.1 else files number) ≡ None in
      either (nat_eq number m.0) (λ t. subst P (sym t) (M (eqb-true number m.0 t))) (λ f. subst P (sym f) e)

  seen_none : (seen : Option (ℕ × Held S K)) (parts : ℕ → Held S K) → (parts number).file ≡ None → IfSome seen (λ m. number ≡ m.0 → (m.1).file ≡ None) → (with_at nat_eq seen parts number).file ≡ None
  seen_none None parts e M = e
  seen_none (Some m) parts e M =
      let P : Bool → Type 0 = λ b. (if b then m.1 else parts number).file ≡ None in
      either (nat_eq number m.0) (λ t. subst P (sym t) (M (eqb-true number m.0 t))) (λ f. subst P (sym f) e)

  back_none : (before now : Held S K) → before.file ≡ None → IsFurther see.reads see.writes before now → now.file ≡ None
  back_none before now e F = none_further before.failed now.failed before.file now.file e F

  module _ (clients : Handle → Option C) (files : ℕ → Option (PartFile S K)) (parts : ℕ → Held S K) (none : files number ≡ None) (unseen : (parts number).file ≡ None) where
    unseen_of : (n : ℕ) → number ≡ n → (parts n).file ≡ None
    unseen_of n here = ap (λ (m : ℕ). (parts m).file) (sym here) ∙ unseen

    file_none : (a : Act S K C) (r : Reply S K C) → BringsIts see parts a → brings_file number a ≡ false → IfSome (file_moved a r) (λ m. number ≡ m.0 → m.1 ≡ None)
    file_none (asks.GetHandle name client) (replies.GetHandle (Ok h)) B f = λ here. refl
    file_none (asks.GetHandle name client) (replies.GetHandle (Err e)) B f = tt
    file_none (asks.GetHandle name client) _ B f = tt
    file_none (asks.FreeHandle h) (replies.FreeHandle (Ok freed)) B f = λ here. refl
    file_none (asks.FreeHandle h) (replies.FreeHandle (Err e)) B f = tt
    file_none (asks.FreeHandle h) _ B f = tt
    file_none (asks.Attach h file) (replies.Attach (Ok done)) B f = λ here. absurd (eqb-false number h.generation f here)
    file_none (asks.Attach h file) (replies.Attach (Err e)) B f = tt
    file_none (asks.Attach h file) _ B f = tt
    file_none (asks.Claim h) (replies.Claim (Ok (claimed.Work work))) B f = λ here. refl
    file_none (asks.Claim h) (replies.Claim (Ok _)) B f = tt
    file_none (asks.Claim h) (replies.Claim (Err e)) B f = tt
    file_none (asks.Claim h) _ B f = tt
    file_none (asks.Finish done) r B f = λ here. back_none (parts done.component.generation) (held_in done.part) (unseen_of done.component.generation here) B.0
    file_none _ r B f = tt

    part_none : (a : Act S K C) (r : Reply S K C) → GivesThem clients files a r → BringsIts see parts a → IfSome (part_seen a r) (λ m. number ≡ m.0 → (m.1).file ≡ None)
    part_none (asks.Claim h) (replies.Claim (Ok (claimed.Work work))) G B = λ here.
        let its : number ≡ h.generation = here ∙ ap (λ (k : Handle). k.generation) G.0 in
        G.1 ∙ (ap files (sym its) ∙ none)
    part_none (asks.Claim h) (replies.Claim (Ok _)) G B = tt
    part_none (asks.Claim h) (replies.Claim (Err e)) G B = tt
    part_none (asks.Claim h) _ G B = tt
    part_none (asks.Finish done) r G B = λ here. back_none (parts done.component.generation) (held_in done.part) (unseen_of done.component.generation here) B.0
    part_none _ r G B = tt

    fault_none : (a : Act S K C) → BringsIts see parts a → fault_in number a ≡ None
    fault_none (asks.Finish done) B =
        let n = done.component.generation in
        let P : Bool → Type 0 = λ b. (if b then done.fault else None) ≡ None in
        either (nat_eq number n)
        (λ t. subst P (sym t) (faultless done.fault (parts n) (held_in done.part) (unseen_of n (eqb-true number n t)) B.2))
        (λ f. subst P (sym f) refl)
    fault_none _ B = refl

  -- ---- a history

  pub never_fails : (log : List (Entry (Act S K C) (Reply S K C))) (clients : Handle → Option C) (files : ℕ → Option (PartFile S K)) (parts : ℕ → Held S K) → GiveThem see clients files parts log
      → All (λ e. brings_file number e.act ≡ false) log → files number ≡ None → (parts number).file ≡ None → All (λ e. fault_in number e.act ≡ None) log
  never_fails [] clients files parts G A none unseen = All-nil (λ (e : Entry (Act S K C) (Reply S K C)). fault_in number e.act ≡ None)
  never_fails (x ∷ log) clients files parts G A none unseen =
      let P : Entry (Act S K C) (Reply S K C) → Type 0 = λ e. brings_file number e.act ≡ false in
      All-cons (λ (e : Entry (Act S K C) (Reply S K C)). fault_in number e.act ≡ None) x log
      (fault_none clients files parts none unseen x.act G.1)
      (never_fails log (clients_after x.act x.reply clients) (files_after x.act x.reply files) (parts_after x.act x.reply parts) G.2 (All-tail P x log A)
      (put_none (file_moved x.act x.reply) files none (file_none clients files parts none unseen x.act x.reply G.1 (All-head P x log A)))
      (seen_none (part_seen x.act x.reply) parts unseen (part_none clients files parts none unseen x.act x.reply G.0 G.1)))
