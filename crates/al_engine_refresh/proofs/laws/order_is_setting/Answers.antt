use Rattle.al_engine_refresh.proofs.Settings.{is_setting}
use Rattle.al_engine_refresh.proofs.laws.order_is_setting.Goals as goal

pub returns : goal.returns
returns c = is_setting
