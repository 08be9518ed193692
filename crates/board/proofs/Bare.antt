-- Histories with readers, and without.
use Rattle.std.proofs.Common.{◌≡◌, ap, refl, Option, Some, List, [], ◌∷◌, ◌++◌, map}
use Rattle.turnstile.specs.declared.entry.Entry.{Entry}
use Rattle.state_words.specs.declared.words.Reader.{Reader}
use Rattle.il_machine.specs.Acts as acts
use Rattle.graph_acts.specs.declared.act.Act.{Act}
use Rattle.graph_acts.specs.declared.act.Reply.{Reply}
use Rattle.graph_acts.specs.Plain.{Sight, Unsaid, plain_act, plain_reply}
use Rattle.board.specs.declared.asked.Asked.{Asked}
use Rattle.board.specs.declared.asked.Told.{Told}
use Rattle.board.specs.Asking.{ArePlain, bare, bare_log, last_told}

map_snoc : {X Y : Type 0} (f : X → Y) (xs : List X) (x : X) → map f (xs ++ x ∷ []) ≡ map f xs ++ f x ∷ []
map_snoc f [] x = refl
map_snoc f (y ∷ ys) x = ap (λ z. f y ∷ z) (map_snoc f ys x)

module _ {S K C : Type 0} where
  pub bare_snoc : (log : List (Entry (Asked S K C) (Told S K C))) (e : Entry (Asked S K C) (Told S K C)) → bare_log (log ++ e ∷ []) ≡ bare_log log ++ bare e ∷ []
  bare_snoc log e = map_snoc bare log e

  pub told_last : (r : Option Reader) (log : List (Entry (Asked S K C) (Told S K C))) (e : Entry (Asked S K C) (Told S K C)) → last_told r (log ++ e ∷ []) ≡ Some e.reply.reader
  told_last r [] e = refl
  told_last r (x ∷ xs) e = told_last (Some x.reply.reader) xs e

  pub plain_more : (see : Sight S K C) (log : List (Entry (Act S K C) (Reply S K C))) (xs : List (acts.Act × acts.Reply)) (e : Entry (Act S K C) (Reply S K C)) (u : Unsaid)
      → ArePlain see log xs → ArePlain see (log ++ e ∷ []) (xs ++ (plain_act see u e.act, plain_reply u e.reply) ∷ [])
  plain_more see [] [] e u A = ((u, refl), tt)
  plain_more see [] (x ∷ xs) e u A = absurd A
  plain_more see (y ∷ log) [] e u A = absurd A
  plain_more see (y ∷ log) (x ∷ xs) e u A = (A.0, plain_more see log xs e u A.1)
