use Rattle.sd_io.proofs.outside.file_shelf.FileShelfShelf.begin.Goals as goal

pub returns-in-Err-clause-last_fault : goal.returns-in-Err-clause-last_fault
returns-in-Err-clause-last_fault g c = (c.in-Err.reason, rw (c.fail.ensures.files, ← c.self.view_is) c.in-Err.ensures.reason, rw (c.fail.ensures.begins) c.fail.ensures.last_fault)
