use Rattle.al_engine.proofs.graphs.orders_now.Goals as goal

pub returns : goal.returns
returns g c = c.in_ok-add_order.ensures (g.R.ReadFiles.library (g.R.ReadFiles.files c.args.read.now)) c.requires.planned c.in_ok-orders.ensures
