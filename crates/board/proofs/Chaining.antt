-- The file of a component goes on from act to act, and a fault shows in it.
use Rattle.std.proofs.Common.{◌≡◌, ℕ, nat_eq, Bool, true, false, List, [], ◌∷◌, All, Option, Some, None, IfSome, is_some, Result, Ok, Err, if◌then◌else◌, refl, sym, ◌∙◌, ap, subst, eqb-true}
use Rattle.std.proofs.lemmas.List.Elements.{All-head, All-tail}
use Rattle.omx_types.specs.declared.handle.Handle.{Handle}
use Rattle.omx_types.specs.declared.error.OmxError.{OmxError}
use Rattle.omx_types.specs.declared.fault.PartFault.{PartFault}
use Rattle.machine_laws.proofs.Finding.{either}
use Rattle.audio_parts.specs.Objects.{Held}
use Rattle.audio_parts.specs.ObjectLaws.{object_further, object_itself, shows_earlier, shows_later}
use Rattle.audio_parts.specs.Shown.{held_in}
use Rattle.audio_parts.specs.declared.part_file.PartFile.{PartFile}
use Rattle.audio_parts.specs.declared.part_file.PartFile.TheVariants.{From, To}
use Rattle.turnstile.specs.declared.entry.Entry.{Entry}
use Rattle.graph_acts.specs.declared.act.Act.{Act}
use Rattle.graph_acts.specs.declared.act.Act.TheVariants as asks
use Rattle.graph_acts.specs.declared.act.Reply.{Reply}
use Rattle.graph_acts.specs.declared.act.Reply.TheVariants as replies
use Rattle.graph_acts.specs.declared.claimed.LentClaim.{LentClaim}
use Rattle.graph_acts.specs.declared.claimed.LentClaim.TheVariants as claimed
use Rattle.graph_acts.specs.Objects.{BringsIts, GiveThem, GivesThem, clients_after, files_after, files_by, none_seen, on_done, on_made, parts_after, with_at}
use Rattle.graph_acts.specs.Plain.{Sight}
use Rattle.graph_acts.specs.Working.{IsFaulted, IsFurther}
use Rattle.board.specs.Files.{IsFileOf, brings_file, fault_by, fault_in, first_fault, held_as}

module _ {S K C : Type 0} (see : Sight S K C) where
  abbrev Further : Held S K → Held S K → Type 0
  Further o p = IsFurther see.reads see.writes o p

  abbrev Faulted : PartFault → Held S K → Held S K → Type 0
  Faulted fault o p = IsFaulted see.reads see.writes fault o p

  further : (o p q : Held S K) → Further o p → Further p q → Further o q
  further = object_further see.reads.name see.reads.size see.reads.told see.reads.ends see.reads.offset see.reads.faults see.writes.name see.writes.faults

  earlier : (fault : PartFault) (o p q : Held S K) → Further o p → Faulted fault p q → Faulted fault o q
  earlier = shows_earlier see.reads.name see.reads.size see.reads.told see.reads.ends see.reads.offset see.reads.faults see.writes.name see.writes.faults

  later : (fault : PartFault) (o p q : Held S K) → Faulted fault o p → Further p q → Faulted fault o q
  later = shows_later see.reads.name see.reads.size see.reads.told see.reads.ends see.reads.offset see.reads.faults see.writes.name see.writes.faults

  -- of parts that failed less is said
  as_failed : (b c : Bool) (o p : Option (PartFile S K)) → Further (held_as b o) (held_as c p) → Further (held_as true o) (held_as true p)
  as_failed b c None None h = (λ e. e, tt)
  as_failed b c None (Some y) h = absurd h.1
  as_failed b c (Some x) None h = absurd h.1
  as_failed b c (Some (From s f n)) (Some (From t g m)) h = (
    λ e. e,
    (h.1.0, h.1.1, record { name = h.1.2.name; size = h.1.2.size; told = h.1.2.told; ends = h.1.2.ends; faults = h.1.2.faults; forward = λ e. absurd cc; stops = λ e. absurd cc }),
  )
  as_failed b c (Some (To s n)) (Some (To t m)) h = (λ e. e, h.1)
  as_failed b c (Some (From s f n)) (Some (To t m)) h = absurd h.1
  as_failed b c (Some (To s n)) (Some (From t g m)) h = absurd h.1

  -- what the first fault shows stays
  failed_on : (came : Option (PartFile S K)) (f : PartFault) (b c : Bool) (x z : PartFile S K) → IsFileOf see came (Some f) x → Further (held_as b (Some x)) (held_as c (Some z)) → IsFileOf see came (Some f) z
  failed_on came f b c x z J F =
      let q = as_failed b c (Some x) (Some z) F in (
        further (held_as false came) (held_as true (Some x)) (held_as true (Some z)) J.0 q,
        later f (held_as false came) (held_as true (Some x)) (held_as true (Some z)) J.1 q,
      )

  -- a part that comes back from its step, by what was known of it before
  stepped : (came : Option (PartFile S K)) (fault next : Option PartFault) (b c : Bool) (o p : Option (PartFile S K)) → ((x : PartFile S K) → o ≡ Some x → IsFileOf see came fault x) → (fault ≡ None → b ≡ false)
      → Further (held_as b o) (held_as c p) → c ≡ is_some next → IfSome next (λ f. Faulted f (held_as b o) (held_as c p)) → (y : PartFile S K) → p ≡ Some y → IsFileOf see came (first_fault fault next) y
  stepped came fault next b c None None J W F n G y e = absurd cc
  stepped came fault next b c None (Some z) J W F n G y e = absurd F.1
  stepped came fault next b c (Some x) None J W F n G y e = absurd cc
  stepped came None None b c (Some x) (Some z) J W F n G y e =
      let q : Further (held_as false (Some x)) (held_as false (Some z)) = subst (λ (v : Bool × Bool). Further (held_as v.0 (Some x)) (held_as v.1 (Some z))) (λ i. (W refl i, n i)) F in
      let is : z ≡ y = cc in
      subst (λ (k : PartFile S K). Further (held_as false came) (held_as false (Some k))) is (further (held_as false came) (held_as false (Some x)) (held_as false (Some z)) (J x refl) q)
  stepped came None (Some f) b c (Some x) (Some z) J W F n G y e =
      let q : Further (held_as false (Some x)) (held_as true (Some z)) = subst (λ (v : Bool × Bool). Further (held_as v.0 (Some x)) (held_as v.1 (Some z))) (λ i. (W refl i, n i)) F in
      let s : Faulted f (held_as false (Some x)) (held_as true (Some z)) = subst (λ (v : Bool × Bool). Faulted f (held_as v.0 (Some x)) (held_as v.1 (Some z))) (λ i. (W refl i, n i)) G in
      let is : z ≡ y = cc in
      subst (λ (k : PartFile S K). Further (held_as false came) (held_as true (Some k)) × Faulted f (held_as false came) (held_as true (Some k))) is (
        further (held_as false came) (held_as false (Some x)) (held_as true (Some z)) (J x refl) q,
        earlier f (held_as false came) (held_as false (Some x)) (held_as true (Some z)) (J x refl) s,
      )
  stepped came (Some f) None b c (Some x) (Some z) J W F n G y e = let is : z ≡ y = cc in subst (IsFileOf see came (Some f)) is (failed_on came f b c x z (J x refl) F)
  stepped came (Some f) (Some g) b c (Some x) (Some z) J W F n G y e = let is : z ≡ y = cc in subst (IsFileOf see came (Some f)) is (failed_on came f b c x z (J x refl) F)

  -- what is known of a component's file in the graph, and of that of its part when it was last seen
  record IsOn (came : Option (PartFile S K)) (fault : Option PartFault) (file : Option (PartFile S K)) (part : Held S K) : Type 0 where
    inside : (x : PartFile S K) → file ≡ Some x → IsFileOf see came fault x
    outside : (x : PartFile S K) → part.file ≡ Some x → IsFileOf see came fault x
    whole : fault ≡ None → part.failed ≡ false

  module _ (number : ℕ) (came : Option (PartFile S K)) (fault : Option PartFault) where
    -- there is no file in the graph any more, or the same
    gone_on : (b : Bool) (file : Option (PartFile S K)) (part : Held S K) → IsOn came fault file part → IsOn came fault (if b then None else file) part
    gone_on true file part J = record { inside = λ x e. absurd cc; outside = J.outside; whole = J.whole }
    gone_on false file part J = J

    made_on : {E : Type 0} (result : Result Handle E) (files : ℕ → Option (PartFile S K)) (part : Held S K) → IsOn came fault (files number) part → IsOn came fault (with_at nat_eq (on_made result (λ h. h.generation) None) files number) part
    made_on (Ok h) files part J = gone_on (nat_eq number h.generation) (files number) part J
    made_on (Err e) files part J = J

    freed_on : {T E : Type 0} (result : Result T E) (n : ℕ) (files : ℕ → Option (PartFile S K)) (part : Held S K) → IsOn came fault (files number) part → IsOn came fault (with_at nat_eq (on_done result n None) files number) part
    freed_on (Ok done) n files part J = gone_on (nat_eq number n) (files number) part J
    freed_on (Err e) n files part J = J

    attached_on : {T E : Type 0} (result : Result T E) (n : ℕ) (file : PartFile S K) (files : ℕ → Option (PartFile S K)) (part : Held S K) → nat_eq number n ≡ false → IsOn came fault (files number) part
        → IsOn came fault (with_at nat_eq (on_done result n (Some file)) files number) part
    attached_on (Ok done) n file files part f J = subst (λ (b : Bool). IsOn came fault (if b then Some file else files number) part) (sym f) J
    attached_on (Err e) n file files part f J = J

    claimed_on : (h : Handle) (result : Result (LentClaim S K) OmxError) (clients : Handle → Option C) (files : ℕ → Option (PartFile S K)) (parts : ℕ → Held S K) → GivesThem clients files (asks.Claim h) (replies.Claim result) → IsOn came fault (files number) (parts number)
        → IsOn came fault (files_after {C = C} (asks.Claim h) (replies.Claim result) files number) (parts_after {C = C} (asks.Claim h) (replies.Claim result) parts number)
    claimed_on h (Ok (claimed.Work work)) clients files parts G J =
        let n : work.component.generation ≡ h.generation = ap (λ (k : Handle). k.generation) G.0 in
        let A : nat_eq number h.generation ≡ true → IsOn came fault None (held_in work.part) = λ t. record {
          inside = λ x e. absurd cc;
          outside = λ x e. J.inside x (ap files (eqb-true number h.generation t) ∙ (sym G.1 ∙ e));
          whole = λ none. G.2;
        } in
        either (nat_eq number h.generation)
        (λ t. subst (λ (b : Bool × Bool). IsOn came fault (if b.0 then None else files number) (if b.1 then held_in work.part else parts number)) (λ i. (sym t i, sym (ap (nat_eq number) n ∙ t) i)) (A t))
        (λ f. subst (λ (b : Bool × Bool). IsOn came fault (if b.0 then None else files number) (if b.1 then held_in work.part else parts number)) (λ i. (sym f i, sym (ap (nat_eq number) n ∙ f) i)) J)
    claimed_on h (Ok claimed.Busy) clients files parts G J = J
    claimed_on h (Ok claimed.NotRunning) clients files parts G J = J
    claimed_on h (Ok claimed.Ended) clients files parts G J = J
    claimed_on h (Ok (claimed.Held port)) clients files parts G J = J
    claimed_on h (Ok (claimed.NoData port)) clients files parts G J = J
    claimed_on h (Ok (claimed.NoRoom port)) clients files parts G J = J
    claimed_on h (Ok (claimed.Events room need)) clients files parts G J = J
    claimed_on h (Err e) clients files parts G J = J

    unfaulted : (f g : Option PartFault) → first_fault f g ≡ None → is_some g ≡ false
    unfaulted f None e = refl
    unfaulted None (Some x) e = absurd cc
    unfaulted (Some y) (Some x) e = absurd cc

    -- a part that comes back
    back_on : (next : Option PartFault) (part now : Held S K) → Further part now × (now.failed ≡ is_some next) × IfSome next (λ f. Faulted f part now) → (file : Option (PartFile S K)) → IsOn came fault file part → IsOn came (first_fault fault next) now.file now
    back_on next part now B file J =
        let goes = stepped came fault next part.failed now.failed part.file now.file J.outside J.whole B.0 B.1 B.2 in
        record { inside = goes; outside = goes; whole = λ none. B.1 ∙ unfaulted fault next none }

    act_on : (a : Act S K C) (r : Reply S K C) (clients : Handle → Option C) (files : ℕ → Option (PartFile S K)) (parts : ℕ → Held S K) → GivesThem clients files a r → BringsIts see parts a → brings_file number a ≡ false → IsOn came fault (files number) (parts number)
        → IsOn came (first_fault fault (fault_in number a)) (files_after a r files number) (parts_after a r parts number)
    act_on (asks.GetHandle name client) (replies.GetHandle result) clients files parts G B f J = made_on result files (parts number) J
    act_on (asks.GetHandle name client) _ clients files parts G B f J = J
    act_on (asks.FreeHandle h) (replies.FreeHandle result) clients files parts G B f J = freed_on result h.generation files (parts number) J
    act_on (asks.FreeHandle h) _ clients files parts G B f J = J
    act_on (asks.Attach h file) (replies.Attach result) clients files parts G B f J = attached_on result h.generation file files (parts number) f J
    act_on (asks.Attach h file) _ clients files parts G B f J = J
    act_on (asks.Claim h) (replies.Claim result) clients files parts G B f J = claimed_on h result clients files parts G J
    act_on (asks.Claim h) _ clients files parts G B f J = J
    act_on (asks.Finish done) r clients files parts G B f J =
        let n = done.component.generation in
        let P : Bool → Type 0 = λ b. IsOn came (first_fault fault (if b then done.fault else None)) (if b then (done.part).file else files number) (if b then held_in done.part else parts number) in
        either (nat_eq number n)
        (λ t. subst P (sym t) (back_on done.fault (parts n) (held_in done.part) B (files n) (subst (λ (k : ℕ). IsOn came fault (files k) (parts k)) (eqb-true number n t) J)))
        (λ g. subst P (sym g) J)
    act_on _ r clients files parts G B f J = J

  files_on : (number : ℕ) (came : Option (PartFile S K)) (fault : Option PartFault) (log : List (Entry (Act S K C) (Reply S K C))) (clients : Handle → Option C) (files : ℕ → Option (PartFile S K)) (parts : ℕ → Held S K) → GiveThem see clients files parts log
      → All (λ e. brings_file number e.act ≡ false) log → IsOn came fault (files number) (parts number) → (file : PartFile S K) → files_by files log number ≡ Some file → IsFileOf see came (fault_by number fault log) file
  files_on number came fault [] clients files parts G A J file e = J.inside file e
  files_on number came fault (x ∷ xs) clients files parts G A J file e =
      let P : Entry (Act S K C) (Reply S K C) → Type 0 = λ e. brings_file number e.act ≡ false in
      files_on number came (first_fault fault (fault_in number x.act)) xs (clients_after x.act x.reply clients) (files_after x.act x.reply files) (parts_after x.act x.reply parts) G.2 (All-tail P x xs A)
      (act_on number came fault x.act x.reply clients files parts G.0 G.1 (All-head P x xs A) J) file e

  -- from the first act on
  pub files_from_first : (number : ℕ) (log : List (Entry (Act S K C) (Reply S K C))) (clients : Handle → Option C) (files : ℕ → Option (PartFile S K)) → GiveThem see clients files none_seen log
      → All (λ e. brings_file number e.act ≡ false) log → (file : PartFile S K) → files_by files log number ≡ Some file → IsFileOf see (files number) (fault_by number None log) file
  files_from_first number log clients files G A = files_on number (files number) None log clients files none_seen G A (record {
    inside = λ x e. subst (λ (o : Option (PartFile S K)). Further (held_as false (files number)) (held_as false o)) e
        (object_itself see.reads.name see.reads.size see.reads.told see.reads.ends see.reads.offset see.reads.faults see.writes.name see.writes.faults (held_as false (files number)));
    outside = λ x e. absurd cc;
    whole = λ none. refl;
  })
