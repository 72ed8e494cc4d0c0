use Rattle.vx_pages.proofs.page_text.write_place.Goals as goal

pub returns-in-NotFound-clause-ok : goal.returns-in-NotFound-clause-ok
returns-in-NotFound-clause-ok c = rw c.in-NotFound.is c.write_number_under-in-NotFound.ensures.ok
