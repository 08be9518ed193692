use Rattle.std.proofs.Common.{◌≡◌, ◌+◌, ◌<◌, [], ◌∷◌, All, length, ap, sym, subst, ◌∙◌, arith}
use Rattle.std.proofs.lemmas.List.Elements.{All-append, All-cons, All-nil}
use Rattle.graph_acts.specs.Plain.{sight_of}
use Rattle.board.specs.Boards.{pass_view}
use Rattle.play_workers.specs.declared.hand.Hand.TheVariants.{Conducts}
use Rattle.play_workers.specs.Hands.{AreThreads, CanStart}
use Rattle.play_workers.specs.Rooms.{IsNewKit}
use Rattle.play_workers.proofs.Splitting.{all_first}
use Rattle.play_workers.proofs.Threads.{threads_snoc, workers_start}
use Rattle.play_workers.proofs.hiring.start.Goals as goal

pub open_book-requires : goal.open_book-requires
open_book-requires g c =
    let lt : 0 < length c.hire.new.kits.items = let n = c.hire.ensures.kits.1 in omega (arith, n) in
    record { kit = (all_first IsNewKit c.hire.new.kits.items c.remove-kit.result lt c.remove-kit.ensures.value c.hire.ensures.kits.0).0 }

pub returns-clause-threads : goal.returns-clause-threads
returns-clause-threads g c = λ plan seats cast.
    let counts = g.G.Gate.counts in
    let see = sight_of g.C.Client g.S.Source g.K.Sink in
    let b = c.args.board.now in
    let root = c.hire.ensures.root in
    let hands = c.hire.new.hands.items in
    let book = c.open_book.ensures.parts in
    let parts = c.new-pass.ensures.parts in
    let is = c.open_book.ensures.book b seats root.0.pass root.0.number root.0.seen root.0.mine in
    let pass = c.new-pass.ensures.pass b plan seats is book.1 (ap (λ p. (pass_view p).mine) book.0 ∙ root.0.mine) cast in
    let its : c.new-pass.result.book.pass ≡ c.hire.new.root = ap (λ k. k.pass) parts.0 ∙ book.0 in
    let splits : (pass_view c.new-pass.result.book.pass).splits + 1 ≡ 1 + length hands = let s = root.1 in let h = c.hire.ensures.hands.0 in ap (λ p. (pass_view p).splits + 1) its ∙ omega (arith, s, h) in
    let joined : (pass_view c.new-pass.result.book.pass).joined ≡ [] = ap (λ p. (pass_view p).joined) its ∙ root.0.joined in
    subst (AreThreads counts see b plan seats 1) (sym c.push_reserved.ensures.items) (threads_snoc counts see b plan seats 1 hands c.new-pass.result (c.hire.ensures.workers seats) (pass, splits, joined))

pub returns-clause-start : goal.returns-clause-start
returns-clause-start g c =
    let hands = c.hire.new.hands.items in
    let parts = c.new-pass.ensures.parts in
    subst (All CanStart) (sym c.push_reserved.ensures.items) (All-append CanStart hands (Conducts c.new-pass.result ∷ [])
    (workers_start g.G.Gate.counts (sight_of g.C.Client g.S.Source g.K.Sink) c.args.board.now [] 1 hands (c.hire.ensures.workers []))
    (All-cons CanStart (Conducts c.new-pass.result) [] (parts.3, parts.2) (All-nil CanStart)))
