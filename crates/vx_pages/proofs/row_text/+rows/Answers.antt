use Rattle.vx_pages.proofs.RowLists.{json_list, json_struct}
use Rattle.vx_pages.proofs.row_text.+rows.Goals as goal

pub write_value-returns-in-List-clause-ok : goal.write_value-returns-in-List-clause-ok
write_value-returns-in-List-clause-ok t c =
    rw c.in-List.is (rw (json_list c.in-List.rows) (rw c.as_slice-in-List.ensures at c.write_rows.ensures.ok))

pub write_value-returns-in-Struct-clause-ok : goal.write_value-returns-in-Struct-clause-ok
write_value-returns-in-Struct-clause-ok t c =
    rw c.in-Struct.is (rw (json_struct c.in-Struct.rows) (rw c.as_slice-in-Struct.ensures at c.write_rows-in-Struct.ensures.ok))
