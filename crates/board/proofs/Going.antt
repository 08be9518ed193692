-- One more act of a history: what passes hold then, and the world that it leads to.
use Rattle.std.proofs.Common.{◌≡◌, ℕ, sym, subst, refl, Bool, true, nat_eq, Option, None, MatchOption, List, [], ◌∷◌, ◌++◌}
use mathlib.Core.Logic.{⊎_elim}
use Rattle.il_machine.specs.World.{World, same_handle}
use Rattle.il_machine.specs.Look.{Look, look}
use Rattle.il_machine.specs.Buffers.{IsWithClient, IsHeldByClient}
use Rattle.il_machine.specs.Whole.{Stands}
use Rattle.il_machine.specs.Acts as acts
use Rattle.il_machine.specs.Sound.{Sound}
use Rattle.il_machine.specs.Run.{Step, Meets}
use Rattle.graph_core.specs.Entries.{look_of}
use Rattle.graph_core.specs.Changes.{IsHandedIn}
use Rattle.graph_core.specs.Clients.{IsOut, WasTold}
use Rattle.il_graph.specs.Shown as graphs
use Rattle.turnstile.specs.declared.entry.Entry.{Entry}
use Rattle.turnstile.specs.Entries.{entry, own}
use Rattle.state_words.specs.Shown.{States, Within}
use Rattle.state_words.specs.Tokens.{known}
use Rattle.state_words.specs.declared.words.Reader.{Reader}
use Rattle.held_things.specs.Held.{Has}
use Rattle.held_things.proofs.Keeping.{at_some, split_held, others_keep, stay_held}
use Rattle.history_laws.specs.Works.{has_work_out}
use Rattle.il_graph.proofs.Returning.{are_terms_at, terms_at}
use Rattle.history_laws.specs.Objects.{IsObjectOut}
use Rattle.graph_acts.specs.declared.act.Act.{Act}
use Rattle.graph_acts.specs.declared.act.Act.TheVariants as asks
use Rattle.graph_acts.specs.declared.act.Reply.{Reply}
use Rattle.graph_acts.specs.Plain.{Sight, Unsaid, plain_act, plain_reply}
use Rattle.graph_acts.specs.Working.{IsWorkIn, OutWork, work_number}
use Rattle.graph_acts.proofs.Comeback.{can_finish, comes_back, nothing_unsaid}
use Rattle.graph_acts.specs.Holding.{OutClient, May, Can, IsGone, IsGoneSo, header_number, client_handle, header_given, client_gone, clients_held, taken_in, client_out, work_come, work_gone, works_held}
use Rattle.graph_acts.specs.Moving.{IsSo, Moved, HasSize, IsLawful}
use Rattle.graph_acts.proofs.Worlds.{handed_with_client, handed_held, meets_end, object_out, still_told}
use Rattle.board.specs.declared.asked.Asked.{Asked}
use Rattle.board.specs.declared.asked.Told.{Told}
use Rattle.board.specs.declared.watched.Watched.{Watched}
use Rattle.board.specs.Asking.{ArePlain, bare_log}
use Rattle.board.specs.Busy.{IsBusyWhereOut}
use Rattle.board.specs.Watching.{next, SeenIn}
use Rattle.board.specs.Histories.{HeadersAreHeld, ClientsAreHeld, PartsAreHeld, WorksAreHeld, Reaches}
use Rattle.board.specs.Serving.{can_ask}
use Rattle.board.proofs.Bare.{bare_snoc, told_last, plain_more}
use Rattle.board.proofs.Busying.{busy_so}
use Rattle.board.proofs.Giving.{parts_go}
use Rattle.board.proofs.Owning.{tells_numbers, tells_handles, own_headers, own_clients, own_works}

abbrev pub IsToldOut : OutClient → World → Type 0
IsToldOut x w = IsObjectOut x.handle w × WasTold x.handle x.progress w

module _ {S K C : Type 0} (see : Sight S K C) (headers : Bool) (first now : graphs.Shown S K C) (log : List (Entry (Act S K C) (Reply S K C))) (pass : ℕ) where
  at_look : (w : World) (P : Look → Type 0) → Stands (graphs.kept see.progress now) w → P (look_of now.core) → P (look w)
  at_look w P S h = subst P (sym S.looks) h

  -- ---- the condition of the machine's step

  -- what the act doesn't tell, as it is in the world
  pub unsaid : (a : Act S K C) (w : World) → Stands (graphs.kept see.progress now) w → HasSize a → Can see now a
      → ((x : OutClient) → Has (clients_held see.progress (own pass log)) x → IsToldOut x w) → ((x : OutWork S K) → Has (works_held (own pass log)) x → IsWorkIn w x) → May see headers (own pass log) a
      → (u : Unsaid) × IsSo see now w u a × Meets w (plain_act see u a)
  unsaid (asks.FreeBuffer h port header) w S z c t g m = (nothing_unsaid, tt, at_look w (IsWithClient header.held.number) S (handed_with_client header (look_of now.core) c))
  unsaid (asks.EmptyThisBuffer h port header) w S z c t g m = (nothing_unsaid, tt, at_look w (IsHeldByClient header.held) S (handed_held header (look_of now.core) z c))
  unsaid (asks.FillThisBuffer h port header) w S z c t g m = (nothing_unsaid, tt, at_look w (IsHeldByClient header.held) S (handed_held header (look_of now.core) z c))
  unsaid (asks.EndNote h client) w S z c t g m = let x = t (record { handle = h; progress = see.progress client }) m in (nothing_unsaid, tt, meets_end h (see.progress client) w x.0 x.1)
  unsaid (asks.Claim h) w S z c t g m = (record { took = []; terms = terms_at h (look_of now.core) }, are_terms_at h (look_of now.core), tt)
  unsaid (asks.Finish done) w S z c t g m = let y = comes_back w m.0 done (g m.0 m.1) m.2 in (record { took = y.0; terms = nothing_unsaid.terms }, y.1.1, y.1.0)
  unsaid _ w S z c t g m = (nothing_unsaid, tt, tt)

  -- ---- what passes hold after the act

  module _ (new : graphs.Shown S K C) (a : Act S K C) (r : Reply S K C) where
    pub headers_go : HeadersAreHeld first log now → May see headers (own pass log) a → Moved see a r now new → HeadersAreHeld first (log ++ entry pass a r ∷ []) new
    headers_go H m M = stay_held header_number nat_eq tells_numbers taken_in header_given log pass a r (λ h. IsHandedIn h (look_of now.core)) (λ h. IsHandedIn h (look_of new.core))
        (λ n. IsWithClient n (look_of now.core)) (λ n. IsWithClient n (look_of new.core)) (λ n. IsWithClient n (look_of first.core)) H (own_headers see headers (own pass log) a r m) M.headers

    pub clients_go : ClientsAreHeld see first log now → May see headers (own pass log) a → Moved see a r now new → ClientsAreHeld see first (log ++ entry pass a r ∷ []) new
    clients_go H m M = stay_held client_handle same_handle tells_handles client_gone (client_out see.progress) log pass a r (IsGoneSo now) (IsGoneSo new)
        (IsGone now) (IsGone new) (IsGone first) H (own_clients see headers (own pass log) a m) M.clients

    -- in each world that the act leads to from one in which they were so
    pub works_go : (first u v : World) → Sound u → Stands (graphs.kept see.progress now) u → Stands (graphs.kept see.progress new) v → (q : Unsaid) → IsSo see now u q a → Meets u (plain_act see q a)
        → Step u (plain_act see q a) (plain_reply q r) v → May see headers (own pass log) a → Moved see a r now new → WorksAreHeld first log u → WorksAreHeld first (log ++ entry pass a r ∷ []) v
    works_go first u v S U V q so met step m M H = stay_held work_number nat_eq tells_numbers work_gone work_come log pass a r (IsWorkIn u) (IsWorkIn v)
        (λ n. has_work_out n u ≡ true) (λ n. has_work_out n v ≡ true) (λ n. has_work_out n first ≡ true) H (own_works see headers (own pass log) a m) (M.works u v S U V q so met step)

    -- what each pass's client objects are to come back with, after the act
    pub told_after : IsLawful see.progress now → IsLawful see.progress new → ClientsAreHeld see first log now → May see headers (own pass log) a → Moved see a r now new
        → (u v : World) → Stands (graphs.kept see.progress now) u → Stands (graphs.kept see.progress new) v → (q : Unsaid)
        → Meets u (plain_act see q a) → Step u (plain_act see q a) (plain_reply q r) v → ((p : ℕ) (x : OutClient) → Has (clients_held see.progress (own p log)) x → IsToldOut x u)
        → (p : ℕ) (x : OutClient) → Has (clients_held see.progress (own p (log ++ entry pass a r ∷ []))) x → IsToldOut x v
    told_after L N H m M u v U V q met step told p x h =
        let others = others_keep client_handle same_handle tells_handles client_gone (client_out see.progress) log pass a r (IsGoneSo now) (IsGoneSo new) (IsGone now) (IsGone new) (IsGone first) H (own_clients see headers (own pass log) a m) in
        let K = clients_go H m M in
        let gone : IsOut x.handle (look v) = subst (IsOut x.handle) (sym V.looks) (N.out x.handle (K.out p x h).0) in (
          object_out x.handle v gone,
          ⊎_elim
              (λ n. at_some _ (client_out see.progress a r) x n.1 (M.told q) u v U V met step)
              (λ o. still_told u v (plain_act see q a) (plain_reply q r) x.handle x.progress (L.sound u U) met step (M.leaves x.handle (H.out p x o.0).0 u U q) (told p x o.0).1 gone)
              (split_held client_handle same_handle tells_handles client_gone (client_out see.progress) log pass a r p x others h),
        )

-- ---- the world that the longer history leads to

module _ {S K C : Type 0} (see : Sight S K C) (headers : Bool) (first : Watched S K C) (now new : graphs.Shown S K C) (log : List (Entry (Asked S K C) (Told S K C))) (pass : ℕ) (a : Asked S K C) (r : Told S K C) where
  pub reach : (opening : graphs.Shown S K C) → IsLawful see.progress now → IsLawful see.progress new
      → HeadersAreHeld opening (bare_log log) now → ClientsAreHeld see opening (bare_log log) now → May see headers (own pass (bare_log log)) a.act → Moved see a.act r.reply now new
      → (w : World) (R : Reaches see first w log) → Stands (graphs.kept see.progress now) R.world
      → (after : List States) → ((v : World) → Stands (graphs.kept see.progress new) v → SeenIn first.handles.items v R.all after) → Within after (known r.reader)
      → (Q : Reaches see first w (log ++ entry pass a r ∷ [])) × Stands (graphs.kept see.progress new) Q.world × (Q.all ≡ after)
  reach opening L N H O m M w R stands after seen within =
      let sound = L.sound R.world stands in
      let e = bare_snoc log (entry pass a r) in
      let can = can_ask see headers opening now (bare_log log) pass a.act H O (λ done h. can_finish see R.world h.0 done (R.works.out pass h.0 h.1) h.2 now sound stands) m in
      let q = unsaid see headers opening now (bare_log log) pass a.act R.world stands M.sized can (λ x h. R.objects pass x h) (λ x h. R.works.out pass x h) m in
      let t = M.step R.world stands q.0 q.1 q.2 in
      let x : acts.Act × acts.Reply = (plain_act see q.0 a.act, plain_reply q.0 r.reply) in (
        record {
          world = t.0;
          acts = R.acts ++ x ∷ [];
          plain = subst (λ l. ArePlain see l (R.acts ++ x ∷ [])) (sym e) (plain_more see (bare_log log) R.acts (entry pass a.act r.reply) q.0 R.plain);
          all = after;
          shown = next R.acts R.world R.all (plain_act see q.0 a.act) (plain_reply q.0 r.reply) t.0 after R.shown q.2 t.2 (seen t.0 t.1);
          reader = subst (λ (o : Option Reader). MatchOption o (Unit {0}) (λ (z : Reader). Within after (known z))) (sym (told_last None log (entry pass a r))) within;
          objects = λ p y h. told_after see headers opening now (bare_log log) pass new a.act r.reply L N O m M R.world t.0 stands t.1 q.0 q.2 t.2 R.objects p y
              (subst (λ l. Has (clients_held see.progress (own p l)) y) e h);
          works = subst (λ l. WorksAreHeld w l t.0) (sym e) (works_go see headers opening now (bare_log log) pass new a.act r.reply w R.world t.0 sound stands t.1 q.0 q.1 q.2 t.2 m M R.works);
        },
        t.1,
        refl,
      )

  -- a note of a component whose client object some pass holds was answered Busy
  pub busy_here : (opening : graphs.Shown S K C) → IsLawful see.progress now → HeadersAreHeld opening (bare_log log) now → ClientsAreHeld see opening (bare_log log) now
      → May see headers (own pass (bare_log log)) a.act → Moved see a.act r.reply now new → (w : World) (R : Reaches see first w log) → Stands (graphs.kept see.progress now) R.world → IsBusyWhereOut see (bare_log log) a.act r.reply
  busy_here opening L H O m M w R stands =
      let sound = L.sound R.world stands in
      let can = can_ask see headers opening now (bare_log log) pass a.act H O (λ done h. can_finish see R.world h.0 done (R.works.out pass h.0 h.1) h.2 now sound stands) m in
      let q = unsaid see headers opening now (bare_log log) pass a.act R.world stands M.sized can (λ x h. R.objects pass x h) (λ x h. R.works.out pass x h) m in
      let t = M.step R.world stands q.0 q.1 q.2 in
      busy_so see (bare_log log) R.world t.0 q.0 a.act r.reply M.replied (λ p x h. (R.objects p x h).0) t.2

  -- each work that a pass holds is the one of its component that was claimed last
  pub parts_here : (opening : graphs.Shown S K C) → IsLawful see.progress now → HeadersAreHeld opening (bare_log log) now → ClientsAreHeld see opening (bare_log log) now → PartsAreHeld (bare_log log)
      → May see headers (own pass (bare_log log)) a.act → Moved see a.act r.reply now new → (w : World) (R : Reaches see first w log) → Stands (graphs.kept see.progress now) R.world → PartsAreHeld (bare_log log ++ entry pass a.act r.reply ∷ [])
  parts_here opening L H O P m M w R stands =
      let sound = L.sound R.world stands in
      let can = can_ask see headers opening now (bare_log log) pass a.act H O (λ done h. can_finish see R.world h.0 done (R.works.out pass h.0 h.1) h.2 now sound stands) m in
      let q = unsaid see headers opening now (bare_log log) pass a.act R.world stands M.sized can (λ x h. R.objects pass x h) (λ x h. R.works.out pass x h) m in
      let t = M.step R.world stands q.0 q.1 q.2 in
      parts_go see headers (bare_log log) pass w R.world t.0 a.act r.reply R.works m M.replied (M.works R.world t.0 sound stands t.1 q.0 q.1 q.2 t.2) P
