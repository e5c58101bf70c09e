use Rattle.rz_types_check.proofs.Walks.{cut_one}
use Rattle.rz_types_check.proofs.names.Names.cut.Goals as goal

pub returns : goal.returns
returns c = λ i. record {
  labels = cut_one c.args.self.now.labels.list.items _ c.args.counts.labels c.cut.ensures i;
  arrays = cut_one c.args.self.now.arrays.list.items _ c.args.counts.arrays c.cut-2.ensures i;
  indexed = cut_one c.args.self.now.indexed.list.items _ c.args.counts.indexed c.cut-3.ensures i;
  around = cut_one c.args.self.now.around.list.items _ c.args.counts.around c.cut-4.ensures i;
}
