-- One more act of a history: the objects that stand in the graph then, and what the parts of the works hold that are out.
use Rattle.std.proofs.Common.{◌≡◌, ◌≢◌, ℕ, nat_eq, Bool, true, List, [], ◌∷◌, ◌++◌, Option, Some, None, IfSome, is_some, Result, Ok, Err, if◌then◌else◌, refl, sym, ◌∙◌, ap, subst, eq-eqb, ne_eqb}
use mathlib.Core.Logic.{⊎_elim}
use Rattle.omx_types.specs.declared.handle.Handle.{Handle}
use Rattle.omx_types.specs.declared.error.OmxError.{OmxError}
use Rattle.il_machine.specs.World.{World, same_handle}
use Rattle.audio_parts.specs.Objects.{Held}
use Rattle.audio_parts.specs.Shown.{held_in}
use Rattle.audio_parts.specs.declared.part_file.PartFile.{PartFile}
use Rattle.il_graph.specs.Shown as graphs
use Rattle.history_laws.specs.Works.{has_work_out}
use Rattle.turnstile.specs.declared.entry.Entry.{Entry}
use Rattle.turnstile.specs.Entries.{entry, own}
use Rattle.held_things.specs.Held.{Given, Has, IsOther}
use Rattle.held_things.proofs.Keeping.{at_some, split_held, others_keep}
use Rattle.graph_acts.specs.declared.act.Act.{Act}
use Rattle.graph_acts.specs.declared.act.Act.TheVariants as asks
use Rattle.graph_acts.specs.declared.act.Reply.{Reply}
use Rattle.graph_acts.specs.declared.act.Reply.TheVariants as replies
use Rattle.graph_acts.specs.declared.claimed.LentClaim.{LentClaim}
use Rattle.graph_acts.specs.declared.claimed.LentClaim.TheVariants as claimed
use Rattle.graph_acts.specs.Holding.{May, work_come, work_gone, works_held}
use Rattle.graph_acts.specs.Objects.{BringsIts, GiveThem, GivesThem, HasObjects, MovesObjects, clients_after, client_moved, clients_by, clients_in, file_moved, files_after, files_by, files_in, none_seen, parts_after, parts_by, with_at}
use Rattle.graph_acts.specs.Plain.{Sight}
use Rattle.graph_acts.proofs.Comeback.{failed_so}
use Rattle.graph_acts.specs.Replying.{IsReplyTo}
use Rattle.graph_acts.specs.Working.{IsFaulted, IsFurther, IsWorkIn, MovesWorks, OutWork, out_of, work_back, work_given, work_number}
use Rattle.board.specs.Histories.{PartsAreHeld, WorksAreHeld}
use Rattle.board.proofs.Owning.{own_works, tells_numbers}

-- ---- what stands in the graph

same_at : {P X : Type 0} (same : P → P → Bool) (o : Option (P × X)) (f g : P → X) (place : P) → f place ≡ g place → with_at same o f place ≡ with_at same o g place
same_at same None f g place e = e
same_at same (Some x) f g place e = ap (λ y. if same place x.0 then x.1 else y) e

module _ {S K C : Type 0} where
  clients_snoc : (at : Handle → Option C) (log : List (Entry (Act S K C) (Reply S K C))) (e : Entry (Act S K C) (Reply S K C)) → clients_by at (log ++ e ∷ []) ≡ clients_after e.act e.reply (clients_by at log)
  clients_snoc at [] e = refl
  clients_snoc at (x ∷ xs) e = clients_snoc (clients_after x.act x.reply at) xs e

  files_snoc : (at : ℕ → Option (PartFile S K)) (log : List (Entry (Act S K C) (Reply S K C))) (e : Entry (Act S K C) (Reply S K C)) → files_by at (log ++ e ∷ []) ≡ files_after e.act e.reply (files_by at log)
  files_snoc at [] e = refl
  files_snoc at (x ∷ xs) e = files_snoc (files_after x.act x.reply at) xs e

  parts_snoc : (at : ℕ → Held S K) (log : List (Entry (Act S K C) (Reply S K C))) (e : Entry (Act S K C) (Reply S K C)) → parts_by at (log ++ e ∷ []) ≡ parts_after e.act e.reply (parts_by at log)
  parts_snoc at [] e = refl
  parts_snoc at (x ∷ xs) e = parts_snoc (parts_after x.act x.reply at) xs e

  gives_snoc : (see : Sight S K C) (c : Handle → Option C) (f : ℕ → Option (PartFile S K)) (p : ℕ → Held S K) (log : List (Entry (Act S K C) (Reply S K C))) (e : Entry (Act S K C) (Reply S K C))
      → GiveThem see c f p log → GivesThem (clients_by c log) (files_by f log) e.act e.reply → BringsIts see (parts_by p log) e.act → GiveThem see c f p (log ++ e ∷ [])
  gives_snoc see c f p [] e G is b = (is, b, tt)
  gives_snoc see c f p (x ∷ xs) e G is b =
      (G.0, G.1, gives_snoc see (clients_after x.act x.reply c) (files_after x.act x.reply f) (parts_after x.act x.reply p) xs e G.2 is b)

  pub has_more : (first now new : graphs.Shown S K C) (log : List (Entry (Act S K C) (Reply S K C))) (pass : ℕ) (a : Act S K C) (r : Reply S K C) → HasObjects first log now → MovesObjects a r now new → HasObjects first (log ++ entry pass a r ∷ []) new
  has_more first now new log pass a r H M = record {
    clients = λ h. M.clients h ∙ (same_at same_handle (client_moved a r) (clients_in now) (clients_by (clients_in first) log) h (H.clients h) ∙ sym (ap (λ (f : Handle → Option C). f h) (clients_snoc (clients_in first) log (entry pass a r))));
    files = λ n. M.files n ∙ (same_at nat_eq (file_moved a r) (files_in now) (files_by (files_in first) log) n (H.files n) ∙ sym (ap (λ (f : ℕ → Option (PartFile S K)). f n) (files_snoc (files_in first) log (entry pass a r))));
  }

  pub gives_more : (see : Sight S K C) (first now new : graphs.Shown S K C) (log : List (Entry (Act S K C) (Reply S K C))) (pass : ℕ) (a : Act S K C) (r : Reply S K C)
      → GiveThem see (clients_in first) (files_in first) none_seen log → HasObjects first log now → MovesObjects a r now new → BringsIts see (parts_by none_seen log) a
      → GiveThem see (clients_in first) (files_in first) none_seen (log ++ entry pass a r ∷ [])
  gives_more see first now new log pass a r G H M b =
      let c : clients_in now ≡ clients_by (clients_in first) log = λ i h. H.clients h i in
      let f : files_in now ≡ files_by (files_in first) log = λ i n. H.files n i in
      gives_snoc see (clients_in first) (files_in first) none_seen log (entry pass a r) G
      (subst (λ (z : (Handle → Option C) × (ℕ → Option (PartFile S K))). GivesThem z.0 z.1 a r) (λ i. (c i, f i)) M.given) b

-- ---- what the parts of works hold

module _ {S K : Type 0} where
  came_part : (C : Type 0) (h : Handle) (result : Result (LentClaim S K) OmxError) (at : ℕ → Held S K) (x : OutWork S K) → work_given {C = C} (replies.Claim result) ≡ Some x → held_in x.part ≡ parts_after {C = C} (asks.Claim h) (replies.Claim result) at (work_number x)
  came_part C h (Ok (claimed.Work work)) at x e =
      let is : out_of work ≡ x = cc in
      let n = work.component.generation in
      subst (λ (y : OutWork S K). held_in y.part ≡ with_at nat_eq (Some (n, held_in work.part)) at (work_number y)) is (sym (ap (λ (b : Bool). if b then held_in work.part else at n) (eq-eqb n n refl)))
  came_part C h (Ok claimed.Busy) at x e = absurd cc
  came_part C h (Ok claimed.NotRunning) at x e = absurd cc
  came_part C h (Ok claimed.Ended) at x e = absurd cc
  came_part C h (Ok (claimed.Held port)) at x e = absurd cc
  came_part C h (Ok (claimed.NoData port)) at x e = absurd cc
  came_part C h (Ok (claimed.NoRoom port)) at x e = absurd cc
  came_part C h (Ok (claimed.Events room need)) at x e = absurd cc
  came_part C h (Err error) at x e = absurd cc

  old_claim : (C : Type 0) (h : Handle) (result : Result (LentClaim S K) OmxError) (at : ℕ → Held S K) (n : ℕ) → ((y : OutWork S K) → work_given {C = C} (replies.Claim result) ≡ Some y → n ≢ work_number y) → parts_after {C = C} (asks.Claim h) (replies.Claim result) at n ≡ at n
  old_claim C h (Ok (claimed.Work work)) at n other = ap (λ (b : Bool). if b then held_in work.part else at n) (ne_eqb n work.component.generation (other (out_of work) refl))
  old_claim C h (Ok claimed.Busy) at n other = refl
  old_claim C h (Ok claimed.NotRunning) at n other = refl
  old_claim C h (Ok claimed.Ended) at n other = refl
  old_claim C h (Ok (claimed.Held port)) at n other = refl
  old_claim C h (Ok (claimed.NoData port)) at n other = refl
  old_claim C h (Ok (claimed.NoRoom port)) at n other = refl
  old_claim C h (Ok (claimed.Events room need)) at n other = refl
  old_claim C h (Err error) at n other = refl

module _ {S K C : Type 0} where
  claim_part : (a : Act S K C) (result : Result (LentClaim S K) OmxError) (at : ℕ → Held S K) (x : OutWork S K) → IsReplyTo a (replies.Claim result) → work_given {C = C} (replies.Claim result) ≡ Some x → held_in x.part ≡ parts_after a (replies.Claim result) at (work_number x)
  claim_part (asks.Claim h) result at x is e = came_part C h result at x e
  claim_part _ result at x is e = absurd is

  -- the part of a work that goes out was last seen so
  new_part : (a : Act S K C) (r : Reply S K C) (at : ℕ → Held S K) (x : OutWork S K) → IsReplyTo a r → work_given r ≡ Some x → held_in x.part ≡ parts_after a r at (work_number x)
  new_part a (replies.Claim result) at x is e = claim_part a result at x is e
  new_part a _ at x is e = absurd cc

  -- another one stays
  old_part : (a : Act S K C) (r : Reply S K C) (at : ℕ → Held S K) (n : ℕ) → ((y : OutWork S K) → work_given r ≡ Some y → n ≢ work_number y) → IsOther (work_gone a r) n → parts_after a r at n ≡ at n
  old_part (asks.Claim h) (replies.Claim result) at n other back = old_claim C h result at n other
  old_part (asks.Claim h) _ at n other back = refl
  old_part (asks.Finish done) r at n other back = ap (λ (b : Bool). if b then held_in done.part else at n) (ne_eqb n done.component.generation back)
  old_part _ r at n other back = refl

module _ {S K C : Type 0} (see : Sight S K C) (headers : Bool) (log : List (Entry (Act S K C) (Reply S K C))) (pass : ℕ) where
  -- a work comes back with the file with which it was claimed
  pub brings : (w : World) (a : Act S K C) → May see headers (own pass log) a → ((x : OutWork S K) → Has (works_held (own pass log)) x → IsWorkIn w x) → PartsAreHeld log → BringsIts see (parts_by none_seen log) a
  brings w (asks.Finish done) m H P =
      let e : held_in (m.0).part ≡ parts_by none_seen log done.component.generation = P pass m.0 m.1 ∙ ap (λ (h : Handle). parts_by none_seen log h.generation) (sym (m.2).component) in
      subst (λ (o : Held S K). IsFurther see.reads see.writes o (held_in done.part) × ((done.part).failed ≡ is_some done.fault) × IfSome done.fault (λ fault. IsFaulted see.reads see.writes fault o (held_in done.part))) e
      ((m.2).object, failed_so w m.0 done (H m.0 m.1) m.2, (m.2).shows)
  brings w _ m H P = tt

  pub parts_go : (w u v : World) (a : Act S K C) (r : Reply S K C) → WorksAreHeld w log u → May see headers (own pass log) a → IsReplyTo a r → MovesWorks (work_back a) (work_given r) u v → PartsAreHeld log
      → PartsAreHeld (log ++ entry pass a r ∷ [])
  parts_go w u v a r W m is M P p x h =
      let others = others_keep work_number nat_eq tells_numbers work_gone work_come log pass a r (IsWorkIn u) (IsWorkIn v) (λ n. has_work_out n u ≡ true) (λ n. has_work_out n v ≡ true) (λ n. has_work_out n w ≡ true) W (own_works see headers (own pass log) a m) in
      ⊎_elim
      (λ n. new_part a r (parts_by none_seen log) x is n.1)
      (λ s. P p x s.0 ∙ sym (old_part a r (parts_by none_seen log) (work_number x)
      (λ y e. (at_some (Given work_number (IsWorkIn u) (IsWorkIn v)) (work_given r) y e M.given).other x (W.out p x s.0)) s.1))
      (split_held work_number nat_eq tells_numbers work_gone work_come log pass a r p x others h)
      ∙ sym (ap (λ (f : ℕ → Held S K). f (work_number x)) (parts_snoc none_seen log (entry pass a r)))
