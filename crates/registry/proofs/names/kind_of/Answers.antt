use Rattle.std.proofs.Common.{sym, ap, option_map}
use Rattle.il_machine.specs.Kinds.{named_kinds}
use Rattle.registry.proofs.Unnamed.{unnamed}
use Rattle.registry.proofs.names.kind_of.Goals as goal

pub returns-in_default : goal.returns-in_default
returns-in_default c =
    let d = c.in_default in
    sym (ap (option_map (λ row. row.1))
    (unnamed named_kinds c.args.name.now (
      d.not-text,
      (
        d.not-text-2,
        (
          d.not-text-3,
          (
            d.not-text-4,
            (
              d.not-text-5,
              (
                d.not-text-6,
                (
                  d.not-text-7,
                  (
                    d.not-text-8,
                    (
                      d.not-text-9,
                      (
                        d.not-text-10,
                        (d.not-text-11, (d.not-text-12, (d.not-text-13, (d.not-text-14, (d.not-text-15, (d.not-text-16, (d.not-text-17, (d.not-text-18, (d.not-text-19, (d.not-text-20, (d.not-text-21, tt))))))))))),
                      ),
                    ),
                  ),
                ),
              ),
            ),
          ),
        ),
      ),
    )))
