use Rattle.std.proofs.Common.{◌≤◌, vec_len, subst, sym, List}
use Rattle.std.specs.List.{All}
use Rattle.rtp_parts.specs.declared.window.Held.{Held}
use Rattle.rtp_parts.proofs.WindowLines.{All-rest}
use Rattle.rtp_parts.proofs.window.Window.due.Goals as goal

pub invariant_of-self-clause-most : goal.invariant_of-self-clause-most
invariant_of-self-clause-most c =
    subst (λ (xs : List Held). All (λ (h : Held). h.number ≤ c.args.self.now.greatest) xs) (sym c.pop_front.ensures.rest) (All-rest (λ (h : Held). h.number ≤ c.args.self.now.greatest) c.args.self.now.held.items c.args.self.now.most)

pub invariant_of-self-clause-short : goal.invariant_of-self-clause-short
invariant_of-self-clause-short c =
    subst (λ (xs : List Held). All (λ (h : Held). vec_len h.payload ≤ 4096) xs) (sym c.pop_front.ensures.rest) (All-rest (λ (h : Held). vec_len h.payload ≤ 4096) c.args.self.now.held.items c.args.self.now.short)
