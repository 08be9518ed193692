-- An act that is served, and shown.
use Rattle.std.proofs.Common.{◌≡◌, ℕ, ◌+◌, ◌∙◌, sym, ap, subst, map, Bool, Option, None, MatchOption, List, [], ◌∷◌, ◌++◌, length, length-append}
use Rattle.omx_types.specs.declared.state.State.TheVariants.{Invalid}
use Rattle.il_machine.specs.World.{World}
use Rattle.il_machine.specs.Whole.{Stands}
use Rattle.il_graph.specs.Shown as graphs
use Rattle.turnstile.specs.declared.entry.Entry.{Entry}
use Rattle.turnstile.specs.Entries.{entry, own, Due}
use Rattle.state_words.specs.Shown.{Within, States, last_or}
use Rattle.state_words.specs.Tokens.{IsReaderOf, IsShowerOf, known, known_by}
use Rattle.state_words.specs.declared.words.Reader.{Reader}
use Rattle.state_words.specs.declared.words.Shower.{Shower}
use Rattle.state_words.specs.declared.words.StateWords.{StateWords}
use Rattle.graph_acts.specs.declared.act.Reply.{Reply}
use Rattle.graph_acts.specs.declared.served.Served.{Served}
use Rattle.graph_acts.specs.Plain.{Sight}
use Rattle.graph_acts.specs.Holding.{May}
use Rattle.graph_acts.specs.Replying.{AreReplies}
use Rattle.graph_acts.specs.Moving.{Moved, IsLawful}
use Rattle.board.specs.declared.asked.Asked.{Asked}
use Rattle.board.specs.declared.asked.Told.{Told}
use Rattle.board.specs.declared.watched.Watched.{Watched}
use Rattle.board.specs.Asking.{bare_log}
use Rattle.board.specs.Busy.{AreBusyWhereOut, next}
use Rattle.board.specs.Watching.{SeenIn}
use Rattle.board.specs.Histories.{HasVersions, IsTidy, HeadersAreHeld, ClientsAreHeld, PartsAreHeld, Arrives, Legal, StandsAfter, MayAsk, graph_of, known_of, words_of}
use Rattle.board.specs.Serving.{own_bare}
use Rattle.board.specs.Showing.{ShowsChanges}
use Rattle.board.proofs.Bare.{bare_snoc, told_last}
use Rattle.board.proofs.Owning.{replies_more}
use Rattle.graph_acts.specs.Objects.{AreGivenFrom, HasObjects}
use Rattle.board.proofs.Giving.{brings, gives_more, has_more}
use Rattle.board.proofs.Going.{headers_go, clients_go, reach, busy_here, parts_here}

module _ {S K C : Type 0} (see : Sight S K C) (headers : Bool) (first old new : Watched S K C) (log : List (Entry (Asked S K C) (Told S K C))) (pass : ℕ) (a : Asked S K C) (r : Told S K C) (place : ℕ) where
  -- the value after the act and after each changed state was shown
  pub served_so : Due (Legal see) (StandsAfter see) (MayAsk see headers) first log pass old a place → IsLawful see.progress (graph_of old) → IsLawful see.progress (graph_of new)
      → Moved see a.act r.reply (graph_of old) (graph_of new)
      → words_of new ≡ words_of old → new.handles.items ≡ old.handles.items → IsTidy new
      → ((w : World) → Stands (graphs.kept see.progress (graph_of new)) w → SeenIn old.handles.items w (known_of old) (known_of new))
      → HasVersions (known_of new) (length log + 1)
      → IsReaderOf (words_of old) r.reader → Within (known_of new) (known r.reader)
      → Legal see first (log ++ entry pass a r ∷ []) × StandsAfter see first (log ++ entry pass a r ∷ []) new
  served_so due L N M words handles tidy seen versions of within =
      let U = due.stood in
      let m : May see headers (own pass (bare_log log)) a.act = subst (λ l. May see headers l a.act) (own_bare pass log) due.may_ask.0 in
      let e = bare_snoc log (entry pass a r) in
      let H : HeadersAreHeld (graph_of first) (bare_log (log ++ entry pass a r ∷ [])) (graph_of new) = subst (λ l. HeadersAreHeld (graph_of first) l (graph_of new)) (sym e)
      (headers_go see headers (graph_of first) (graph_of old) (bare_log log) pass (graph_of new) a.act r.reply U.headers m M) in
      let O : ClientsAreHeld see (graph_of first) (bare_log (log ++ entry pass a r ∷ [])) (graph_of new) = subst (λ l. ClientsAreHeld see (graph_of first) l (graph_of new)) (sym e)
      (clients_go see headers (graph_of first) (graph_of old) (bare_log log) pass (graph_of new) a.act r.reply U.clients m M) in
      let W : (w : World) → Stands (graphs.kept see.progress (graph_of first)) w → Arrives see first w (log ++ entry pass a r ∷ []) new = λ w s.
      let A = U.worlds w s in
      let Q = reach see headers first (graph_of old) (graph_of new) log pass a r (graph_of first) L N U.headers U.clients m M w A.reaches A.stands (known_of new)
      (λ v t. subst (λ l. SeenIn first.handles.items v l (known_of new)) (sym A.states) (subst (λ hs. SeenIn hs v (known_of old) (known_of new)) U.handles (seen v t))) within in
      record { reaches = Q.0; stands = Q.1; states = Q.2 } in
      let one = due.is_legal.one in
      let A = U.worlds one.world one.stands in
      let count : length (log ++ entry pass a r ∷ []) ≡ length log + 1 = length-append log (entry pass a r ∷ []) in (
        record {
          one = due.is_legal.one;
          replies = subst AreReplies (sym e) (replies_more (bare_log log) (entry pass a.act r.reply) due.is_legal.replies M.replied);
          worlds = λ w s. (W w s).reaches;
          busy = subst (AreBusyWhereOut see) (sym e) (next (bare_log log) (entry pass a.act r.reply) due.is_legal.busy
              (busy_here see headers first (graph_of old) (graph_of new) log pass a r (graph_of first) L U.headers U.clients m M one.world A.reaches A.stands));
          apart = λ p q x y h g k. O.apart p q x y h g k;
          objects = subst (AreGivenFrom see (graph_of first)) (sym e) (gives_more see (graph_of first) (graph_of old) (graph_of new) (bare_log log) pass a.act r.reply due.is_legal.objects U.objects M.objects
              (brings see headers (bare_log log) pass A.reaches.world a.act m (λ x h. A.reaches.works.out pass x h) U.parts));
          reader = subst (λ (o : Option Reader). MatchOption o (Unit {0}) (IsReaderOf (words_of first))) (sym (told_last None log (entry pass a r))) (subst (λ (t : StateWords). IsReaderOf t r.reader) U.words of);
        },
        record {
          worlds = W;
          headers = H;
          clients = O;
          objects = subst (λ l. HasObjects (graph_of first) l (graph_of new)) (sym e) (has_more (graph_of first) (graph_of old) (graph_of new) (bare_log log) pass a.act r.reply U.objects M.objects);
          parts = subst PartsAreHeld (sym e) (parts_here see headers first (graph_of old) (graph_of new) log pass a r (graph_of first) L U.headers U.clients U.parts m M one.world A.reaches A.stands);
          words = words ∙ U.words;
          handles = handles ∙ U.handles;
          tidy = tidy;
          versions = subst (HasVersions (known_of new)) (sym count) versions;
        },
      )

module _ {S K C : Type 0} (see : Sight S K C) (headers : Bool) (first old : Watched S K C) (log : List (Entry (Asked S K C) (Told S K C))) (pass : ℕ) (a : Asked S K C) (place : ℕ) where
  -- the same by the calls that do it: the act, the showing, and the telling
  pub finish : (served' : Served S K C) (shown : Watched S K C) (from : Shower) (to : Reader) (reply : Reply S K C)
      → Due (Legal see) (StandsAfter see) (MayAsk see headers) first log pass old a place → IsLawful see.progress (graph_of old) → IsLawful see.progress served'.graph
      → Moved see a.act reply (graph_of old) served'.graph → ShowsChanges see.progress (record old { served = served' }) shown
      → IsShowerOf (words_of shown) from → IsReaderOf (words_of shown) to → known_by from ≡ known_by shown.shower → Within (known_by shown.shower) (known to)
      → Legal see first (log ++ entry pass a (record { reply = reply; reader = to }) ∷ []) × StandsAfter see first (log ++ entry pass a (record { reply = reply; reader = to }) ∷ []) (record shown { shower = from })
  finish served' shown from to reply due L N M SC is of same within =
      let g : served'.graph ≡ graph_of shown = ap (λ (s : Served S K C). s.graph) (sym SC.served) in
      let k : known_by shown.shower ≡ known_by from = sym same in
      served_so see headers first old (record shown { shower = from }) log pass a (record { reply = reply; reader = to }) place due L
      (subst (IsLawful see.progress) g N)
      (subst (λ n. Moved see a.act reply (graph_of old) n) g M)
      SC.words
      SC.handles
      (record { shower = is; few = SC.tidy.few; count = subst (λ (l : List States). length l ≡ length shown.handles.items) k SC.tidy.count; states = subst (λ (l : List States). shown.states.items ≡ map (last_or Invalid) l) k SC.tidy.states })
      (λ w s. subst (λ l. SeenIn old.handles.items w (known_of old) l) k (SC.seen w (subst (λ n. Stands (graphs.kept see.progress n) w) (sym g) s)))
      (subst (λ l. HasVersions l (length log + 1)) k (SC.versions (length log) due.stood.versions))
      (subst (λ (t : StateWords). IsReaderOf t to) SC.words of)
      (subst (λ (l : List States). Within l (known to)) k within)
