mod PartsMove
