use Rattle.rz_told.proofs.put.put_bytes.Goals as goal

pub returns-in-Done : goal.returns-in-Done
returns-in-Done g c = record { told = c.in-Done.ensures.told; counted = c.in-Done.ensures.counted }

pub returns-in-Failed : goal.returns-in-Failed
returns-in-Failed g c = record { told = c.in-Failed.ensures.told; counted = c.in-Failed.ensures.counted }
