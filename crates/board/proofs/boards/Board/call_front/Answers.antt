use Rattle.std.proofs.Common.{All, ◌∙◌, sym, ap, subst, length, arith}
use Rattle.turnstile.specs.Passes.{view}
use Rattle.state_words.specs.Tokens.{IsReaderOf, known}
use Rattle.graph_acts.specs.Plain.{sight_of}
use Rattle.board.specs.declared.asked.Asked.{Asked}
use Rattle.board.specs.Histories.{words_of}
use Rattle.board.specs.Boards.{first_of}
use Rattle.board.specs.Rows.{acts_of, FrontIsCalled}
use Rattle.board.proofs.Listing.{replies_long}
use Rattle.board.proofs.Fronts.{may_row, front, front_so, front_still, front_in_time, reader_last, knows_row, all_after, has_last}
use Rattle.board.proofs.boards.Board.call_front.Goals as goal

pub turns-requires-clause-may : goal.turns-requires-clause-may
turns-requires-clause-may g c =
    let v = view c.args.pass.now.turn in
    may_row (sight_of g.C.Client g.S.Source g.K.Sink) g.C.Client.HEADERS (first_of c.args.self.now) v.number v.mine c.args.row.now.lists.asked.items c.requires.row.0 c.requires.may

pub invariant_of-row-2 : goal.invariant_of-row-2
invariant_of-row-2 g c =
    let l = c.args.row.now.lists in
    let cap = c.turns.ensures.room in
    let few = l.few in
    let within = c.turns.new.replies.small.1 in
    let a = cap.0 in
    let b = cap.1 in
    let same = l.room in
    record { room = cap.0 ∙ (l.room ∙ sym cap.1); few = omega arith; early = omega arith }

pub returns-in_default-clause-front : goal.returns-in_default-clause-front
returns-in_default-clause-front g c =
    let l = c.args.row.now.lists in
    let n = c.in_default.ensures.none in
    front_still (sight_of g.C.Client g.S.Source g.K.Sink) g.C.Client.HEADERS (first_of c.args.self.now) 0 (view c.args.pass.now.turn) (view c.turns.new.pass) l.asked.items c.turns.new.acts.items l.told.items
    c.turns.new.replies.items n.0 n.1 n.2 c.requires.row.1

-- ---- the front was called

pub invariant_of-row-3 : goal.invariant_of-row-3
invariant_of-row-3 g c =
    let l = c.args.row.now.lists in
    let see = sight_of g.C.Client g.S.Source g.K.Sink in
    let first = first_of c.args.self.now in
    let v = view c.args.pass.now.turn in
    let w = view c.turns.new.pass in
    let left = c.turns.new.acts.items in
    let told = c.turns.new.replies.items in
    let cap = c.in-Some.ensures.room in
    let few = l.few in
    let f = front_so see g.C.Client.HEADERS first c.in-Some.place v w l.asked.items left l.told.items told c.requires.row.1 c.in-Some.ensures.row in
    let early = front_in_time see g.C.Client.HEADERS first c.in-Some.place v w l.asked.items left told f c.in-Some.ensures.some in
    let long = c.turns.new.replies.ok.0 in
    let a = cap.0 in
    record { room = cap.0 ∙ (l.room ∙ sym cap.1); few = omega arith; early = omega arith }

pub learn_last-requires-clause-last : goal.learn_last-requires-clause-last
learn_last-requires-clause-last g c = λ before t is.
    let l = c.args.row.now.lists in
    let see = sight_of g.C.Client g.S.Source g.K.Sink in
    let first = first_of c.args.self.now in
    let v = view c.args.pass.now.turn in
    let w = view c.turns.new.pass in
    let left = c.turns.new.acts.items in
    let told = c.turns.new.replies.items in
    let f = front_so see g.C.Client.HEADERS first c.in-Some.place v w l.asked.items left l.told.items told c.requires.row.1 c.in-Some.ensures.row in
    reader_last see g.C.Client.HEADERS first c.in-Some.place v w l.asked.items left told before t f is

pub returns-clause-row : goal.returns-clause-row
returns-clause-row g c =
    let l = c.args.row.now.lists in
    let f = c.in-Some.ensures.row in
    let P : Asked _ _ _ → Type 0 = λ a. IsReaderOf (words_of (first_of c.args.self.now)) a.reader in
    (all_after P f.made c.turns.new.acts.items (subst (All P) f.asked c.requires.row.0), c.in-Some.ensures.room.0)

pub returns-clause-front : goal.returns-clause-front
returns-clause-front g c =
    let l = c.args.row.now.lists in
    let see = sight_of g.C.Client g.S.Source g.K.Sink in
    let first = first_of c.args.self.now in
    let v = view c.args.pass.now.turn in
    let w = view c.turns.new.pass in
    let left = c.turns.new.acts.items in
    let told = c.turns.new.replies.items in
    let f = front_so see g.C.Client.HEADERS first c.in-Some.place v w l.asked.items left l.told.items told c.requires.row.1 c.in-Some.ensures.row in
    subst (λ r. FrontIsCalled see g.C.Client.HEADERS first v (acts_of l.asked.items) c.in-Some.place r (acts_of left) w) (sym c.learn_last.ensures.replies)
    (front see g.C.Client.HEADERS first c.in-Some.place v w l.asked.items left told f)

pub returns-clause-shown : goal.returns-clause-shown
returns-clause-shown g c = λ some.
    let l = c.args.row.now.lists in
    let see = sight_of g.C.Client g.S.Source g.K.Sink in
    let first = first_of c.args.self.now in
    let v = view c.args.pass.now.turn in
    let w = view c.turns.new.pass in
    let left = c.turns.new.acts.items in
    let told = c.turns.new.replies.items in
    let f = front_so see g.C.Client.HEADERS first c.in-Some.place v w l.asked.items left l.told.items told c.requires.row.1 c.in-Some.ensures.row in
    let same = ap length c.learn_last.ensures.replies in
    let long = replies_long told in
    let last = has_last told (omega arith) in
    knows_row see g.C.Client.HEADERS first c.in-Some.place v w l.asked.items left told last.0 last.1 (known c.learn_last.new.reader) f last.2 (c.learn_last.ensures.learned last.0 last.1 last.2)
