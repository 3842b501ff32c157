use Rattle.sd_sched.proofs.fast.read_head.Goals as goal

pub returns-clause-head : goal.returns-clause-head
returns-clause-head c shape len ns behind =
    let reference = c.in_ok-reference in
    let device = c.in_ok-device in (
      c.requires.space,
      (
        reference.reference.end,
        (reference.ensures.number, (reference.ensures.behind, (device.device.end, (device.ensures.number, behind)))),
      ),
    )
