use Rattle.std.proofs.Common.{rules, ◌≡◌, ◌+◌, ◌<◌, ◌≤◌, [], ◌∷◌, ◌++◌, All, length, map, ap, sym, subst, ◌∙◌, arith, length-append}
use Rattle.graph_acts.specs.Plain.{sight_of}
use Rattle.board.specs.Asking.{bare}
use Rattle.board.specs.Boards.{own_calls, pass_view}
use Rattle.pass_book.specs.Books.{IsBook}
use Rattle.play_worker.specs.Counts.{TellsZeros}
use Rattle.play_worker.specs.Workers.{IsWorker}
use Rattle.play_workers.specs.declared.hand.Hand.TheVariants.{Works}
use Rattle.play_workers.specs.Hands.{AreWorkers}
use Rattle.play_workers.specs.Rooms.{IsNewKit}
use Rattle.play_workers.proofs.Splitting.{all_first, child_new, root_split}
use Rattle.play_workers.proofs.Threads.{workers_snoc}
use Rattle.play_workers.proofs.hiring.hire.Goals as goal

pub open_book-book-requires : goal.open_book-book-requires
open_book-book-requires g c =
    let i = c.loop-gates.invariant in
    let lt : 0 < length c.loop-gates.kits.items = let n = i.7 in omega (arith, n) in
    record { kit = (all_first IsNewKit c.loop-gates.kits.items c.remove-kit.result lt c.remove-kit.ensures.value i.6).0 }

pub loop-gates-preserved : goal.loop-gates-preserved
loop-gates-preserved g c =
    let i = c.loop-gates.invariant in
    let counts = g.G.Gate.counts in
    let see = sight_of g.C.Client g.S.Source g.K.Sink in
    let b = c.args.board.now in
    let old = c.loop-gates.hands.items in
    let lt : 0 < length c.loop-gates.gates.items = search rules in
    let klt : 0 < length c.loop-gates.kits.items = let n = i.7 in omega (arith, n) in
    let gate = all_first (λ x. TellsZeros (counts x)) c.loop-gates.gates.items c.remove-gate.result lt c.remove-gate.ensures.value i.5 in
    let kit = all_first IsNewKit c.loop-gates.kits.items c.remove-kit.result klt c.remove-kit.ensures.value i.6 in
    let r = root_split b c.loop-gates.root c.split-pass.new.root i.0 c.split-pass.ensures.root.0 c.split-pass.ensures.root.1 in
    let ch = child_new b c.loop-gates.root c.split-pass.result i.0 c.split-pass.ensures.child.1 in
    let parts = c.new.ensures.parts in
    let book = c.open_book-book.ensures.parts in
    let n : c.open_book-book.result.number ≡ length old + 1 = let m = i.2 in book.1 ∙ omega (arith, m) in
    let numbered : (pass_view c.split-pass.result).number ≡ c.loop-gates.number + 1 = let s = i.1 in let m = i.2 in ch.0 ∙ omega (arith, s, m) in
    let items : c.push_reserved.new.self.items ≡ old ++ Works c.new.result ∷ [] = c.push_reserved.ensures.items in
    let len : length c.push_reserved.new.self.items ≡ length old + 1 = ap length items ∙ length-append old (Works c.new.result ∷ []) in
    let gates : length c.remove-gate.new.self.items + 1 ≡ length c.loop-gates.gates.items = ap (λ l. length l + 1) c.remove-gate.ensures.items ∙ gate.2 in
    let kits : length c.remove-kit.new.self.items + 1 ≡ length c.loop-gates.kits.items = ap (λ l. length l + 1) c.remove-kit.ensures.items ∙ kit.2 in
    let few : length old + 1 ≤ 8 = let a = i.3 in let e = i.4 in omega (arith, a, e, gates) in
    let one : 1 ≤ c.open_book-book.result.number = omega (arith, n) in
    let eight : c.open_book-book.result.number ≤ 8 = omega (arith, n, few) in
    let mine : own_calls c.open_book-book.result.pass ≡ [] = ap own_calls book.0 ∙ ap (map bare) ch.2 in (
      r.0,
      (let s = i.1 in r.1 ∙ omega (arith, s, len)),
      (let m = i.2 in omega (arith, m, len)),
      (let a = i.3 in omega (arith, a, len, gates)),
      i.4,
      subst (All (λ x. TellsZeros (counts x))) (sym c.remove-gate.ensures.items) gate.1,
      subst (All IsNewKit) (sym c.remove-kit.ensures.items) kit.1,
      (let m = i.7 in omega (arith, m, gates, kits)),
      (λ seats.
          let is : IsBook b seats c.open_book-book.result = c.open_book-book.ensures.book b seats c.split-pass.ensures.child.0 numbered ch.1 ch.2 in
          let w : IsWorker counts see b seats c.new.result = c.new.ensures.worker b seats is mine gate.0 one eight in
          subst (AreWorkers counts see b seats 1) (sym items) (workers_snoc counts see b seats 1 old c.new.result (i.8 seats) w (ap (λ k. k.number) parts.0 ∙ (n ∙ omega arith)))),
      c.push_reserved.ensures.capacity ∙ i.9,
      c.remove-gate.ensures.capacity ∙ i.10,
      i.11,
    )
