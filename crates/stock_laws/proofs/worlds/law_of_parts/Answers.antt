use Rattle.stock_laws.proofs.Works.{parts_attached, parts_claimed, out_claimed, parts_landed, parts_told}
use Rattle.stock_laws.proofs.worlds.law_of_parts.Goals as goal

pub returns : goal.returns
returns c = record { attached = parts_attached; claimed = parts_claimed; out = out_claimed; landed = parts_landed; told = parts_told }
